-- The rows on raises (change request 6), worked by hand.
use Rattle.std.specs.Prelude.{List, [], ◌∷◌, ◌++◌, Some}
use Rattle.rules.specs.declared.Call.TheVariants.{Insert, FindMin, ExtractMin, DecreaseKey, Delete, Meld, Raise}
use Rattle.rules.specs.Lines.{Line}
use Rattle.rules.specs.WorkedRow.{Worked, run, stored, sees, holds, reply}

-- ---- raises between insertions

-- Item 0 is inserted with 5 and raised by 10 and 2: 17. Item 1 is inserted with 3 and raised by 2: 5. A answers the
-- heap and its two items. The amount is 12, and the words are 17 - 12 and 5 - 12, which wraps: 7 below 2^32.
unfoldable pub lines_a : List Line
lines_a = Some (Insert 0 0 5) ∷ Some (Raise 0 10) ∷ Some (Insert 0 1 3) ∷ Some (Raise 0 2) ∷ []

unfoldable pub row_between : Worked
row_between =
    stored lines_a (holds (reply 0 0 2 0 0) (17 ∷ 5 ∷ 0 ∷ 0 ∷ []) (12 ∷ 0 ∷ []) (5 ∷ 4294967289 ∷ 0 ∷ 0 ∷ []))

-- By its key item 1 is the minimum; by its word it would not be.
unfoldable pub run_find_raised : Worked
run_find_raised = run (lines_a ++ Some (FindMin 0) ∷ []) (sees (reply 0 1 5 0 0) (0 ∷ 1 ∷ []) [] [] 2 0 2)

-- A third item with key 17, and item 1 is taken; 0 and 2 have equal keys, so 2 is linked below 0. The three insertions
-- are allowed 1 each, the two raises 0, and the taking R(3), which is 2: 5 in all.
unfoldable pub run_take_raised : Worked
run_take_raised =
    run (lines_a ++ Some (Insert 0 2 17) ∷ Some (ExtractMin 0) ∷ [])
    (sees (reply 0 1 5 1 0) (0 ∷ []) ((0, 2 ∷ []) ∷ []) [] 1 1 5)

-- Of what stands below another item the key rises too: 2 has 27, and lowered to 26 it is cut from 0, which has 27.
unfoldable pub run_cut_raised : Worked
run_cut_raised =
    run
    (lines_a ++ Some (Insert 0 2 17) ∷ Some (ExtractMin 0) ∷ Some (Raise 0 10) ∷ Some (DecreaseKey 2 26) ∷ [])
    (sees (reply 0 2 26 0 1) (0 ∷ 2 ∷ []) [] [] 2 2 9)

-- ---- a lowering after a raise

-- The key is 15 and its word 5. It may be lowered to 7, though that is above the word; the word is then 7 - 10.
unfoldable pub lines_lower : List Line
lines_lower = Some (Insert 0 0 5) ∷ Some (Raise 0 10) ∷ []

unfoldable pub row_lower : Worked
row_lower =
    stored (lines_lower ++ Some (DecreaseKey 0 7) ∷ [])
    (holds (reply 0 0 7 0 0) (7 ∷ 0 ∷ 0 ∷ 0 ∷ []) (10 ∷ 0 ∷ []) (4294967293 ∷ 0 ∷ 0 ∷ 0 ∷ []))

-- 16 is above the key: 11.
unfoldable pub row_not_lower : Worked
row_not_lower =
    stored (lines_lower ++ Some (DecreaseKey 0 16) ∷ [])
    (holds (reply 11 0 0 0 0) (15 ∷ 0 ∷ 0 ∷ 0 ∷ []) (10 ∷ 0 ∷ []) (5 ∷ 0 ∷ 0 ∷ 0 ∷ []))

-- ---- a join of two raised heaps

-- Heap 0 has item 0 with 15 by amount 10, heap 1 has items 1 and 2 with 104 and 130 by amount 100, in words 4 and 30.
unfoldable pub lines_two : List Line
lines_two =
    Some (Insert 0 0 5) ∷ Some (Raise 0 10) ∷ Some (Insert 1 1 4) ∷ Some (Insert 1 2 30) ∷ Some (Raise 1 100)
    ∷ []

-- J,0,1: the words of items 1 and 2 are by amount 10 now.
unfoldable pub row_join : Worked
row_join =
    stored (lines_two ++ Some (Meld 0 1) ∷ [])
    (holds (reply 0 0 3 0 0) (15 ∷ 104 ∷ 130 ∷ 0 ∷ []) (10 ∷ 0 ∷ []) (5 ∷ 94 ∷ 120 ∷ 0 ∷ []))

-- J,1,0: the word of item 0 is by amount 100, 85 below 2^32.
unfoldable pub row_join_back : Worked
row_join_back =
    stored (lines_two ++ Some (Meld 1 0) ∷ [])
    (holds (reply 0 1 3 0 0) (15 ∷ 104 ∷ 130 ∷ 0 ∷ []) (0 ∷ 100 ∷ []) (4294967211 ∷ 4 ∷ 30 ∷ 0 ∷ []))

-- Into an empty heap: its amount 0 stays, so the word is the key.
unfoldable pub row_join_empty : Worked
row_join_empty =
    stored (Some (Insert 1 0 5) ∷ Some (Raise 1 10) ∷ Some (Meld 0 1) ∷ [])
    (holds (reply 0 0 1 0 0) (15 ∷ 0 ∷ 0 ∷ 0 ∷ []) (0 ∷ 0 ∷ []) (15 ∷ 0 ∷ 0 ∷ 0 ∷ []))

-- ---- amounts that wrap

-- Raised by 2^32 - 1, lowered to 0 (its word is 1 then), raised by 2^32 - 1 again: the amount is 2^32 - 2.
unfoldable pub row_wrap : Worked
row_wrap =
    stored
    (Some (Insert 0 0 0) ∷ Some (Raise 0 4294967295) ∷ Some (DecreaseKey 0 0) ∷ Some (Raise 0 4294967295) ∷ [])
    (holds (reply 0 0 1 0 0) (4294967295 ∷ 0 ∷ 0 ∷ 0 ∷ []) (4294967294 ∷ 0 ∷ []) (1 ∷ 0 ∷ 0 ∷ 0 ∷ []))

-- ---- a heap that empties

-- Its last item is taken, or deleted: the amount is 0, and the next item is stored by it.
unfoldable pub row_taken : Worked
row_taken =
    stored (lines_lower ++ Some (ExtractMin 0) ∷ Some (Insert 0 1 3) ∷ [])
    (holds (reply 0 1 3 0 0) (0 ∷ 3 ∷ 0 ∷ 0 ∷ []) (0 ∷ 0 ∷ []) (0 ∷ 3 ∷ 0 ∷ 0 ∷ []))

unfoldable pub row_deleted : Worked
row_deleted =
    stored (lines_lower ++ Some (Delete 0) ∷ Some (Insert 0 1 3) ∷ [])
    (holds (reply 0 1 3 0 0) (0 ∷ 3 ∷ 0 ∷ 0 ∷ []) (0 ∷ 0 ∷ []) (0 ∷ 3 ∷ 0 ∷ 0 ∷ []))

-- One of two items is deleted: the amount stays.
unfoldable pub row_one_left : Worked
row_one_left =
    stored (Some (Insert 0 1 6) ∷ lines_lower ++ Some (Delete 1) ∷ [])
    (holds (reply 0 1 16 0 0) (15 ∷ 0 ∷ 0 ∷ 0 ∷ []) (10 ∷ 0 ∷ []) (5 ∷ 0 ∷ 0 ∷ 0 ∷ []))

-- A on an empty heap is done for any d, and leaves its amount 0; A,8,0 is 7.
unfoldable pub row_none : Worked
row_none =
    stored (Some (Raise 0 4294967295) ∷ [])
    (holds (reply 0 0 0 0 0) (0 ∷ 0 ∷ 0 ∷ 0 ∷ []) (0 ∷ 0 ∷ []) (0 ∷ 0 ∷ 0 ∷ 0 ∷ []))

unfoldable pub row_no_heap : Worked
row_no_heap =
    stored (Some (Raise 8 0) ∷ [])
    (holds (reply 7 0 0 0 0) (0 ∷ 0 ∷ 0 ∷ 0 ∷ []) (0 ∷ 0 ∷ []) (0 ∷ 0 ∷ 0 ∷ 0 ∷ []))

-- ---- the largest raise

-- Key 5 in heap 0 may rise to 2^32 - 1, whatever the keys of heap 1; 1 more is 25.
unfoldable pub lines_largest : List Line
lines_largest = Some (Insert 0 0 5) ∷ Some (Insert 1 1 4294967295) ∷ []

unfoldable pub row_largest : Worked
row_largest =
    stored (lines_largest ++ Some (Raise 0 4294967290) ∷ [])
    (holds (reply 0 0 1 0 0) (4294967295 ∷ 4294967295 ∷ 0 ∷ 0 ∷ []) (4294967290 ∷ 0 ∷ []) (5 ∷ 4294967295 ∷ 0 ∷ 0 ∷ []))

unfoldable pub row_too_many : Worked
row_too_many =
    stored (lines_largest ++ Some (Raise 0 4294967291) ∷ [])
    (holds (reply 25 0 0 0 0) (5 ∷ 4294967295 ∷ 0 ∷ 0 ∷ []) (0 ∷ 0 ∷ []) (5 ∷ 4294967295 ∷ 0 ∷ 0 ∷ []))

unfoldable pub raise_rows : List Worked
raise_rows =
    row_between ∷ run_find_raised ∷ run_take_raised ∷ run_cut_raised ∷ row_lower ∷ row_not_lower ∷ row_join ∷ row_join_back
    ∷ row_join_empty ∷ row_wrap ∷ row_taken ∷ row_deleted ∷ row_one_left ∷ row_none ∷ row_no_heap ∷ row_largest ∷ row_too_many ∷ []
