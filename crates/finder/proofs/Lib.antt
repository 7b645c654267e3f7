-- What the functions of the finder need, bottom to top.
pub mod OwnSpans
pub mod Ready
pub mod AtPlace
pub mod Walking
pub mod Visiting
pub mod Beginning
pub mod FirstWaiting
pub mod Searching
pub mod Feeding
pub mod HideBeyond
pub mod ListTaken
pub mod WaitsBeyond
pub mod FeedingWithin
