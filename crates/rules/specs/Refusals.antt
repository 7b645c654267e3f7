-- The codes of the papers, by the reason of a refusal.
use Rattle.std.specs.Prelude.{ℕ, Result, Ok, Err}
use Rattle.rules.specs.declared.Refusal.{Refusal}
use Rattle.rules.specs.declared.Refusal.TheVariants.{
  StoreSize,
  SheetLength,
  LineCount,
  OutputLength,
  UnsoundStore,
  NoCall,
  NoSuchHeap,
  NoSuchItem,
  ItemInHeap,
  ItemFree,
  LargerKey,
  EmptyHeap,
  SameHeap,
  PlaceCount,
  StartPlace,
  SpanLists,
  ResultLists,
  SpanEnds,
  SpanLoss,
  SpanOrder,
  MalformedMap,
  PlaceList,
  SupplyWindow,
  Minute,
  KeyOverflow,
}

unfoldable pub code : Refusal → ℕ
code StoreSize = 1
code SheetLength = 2
code LineCount = 3
code OutputLength = 4
code UnsoundStore = 5
code NoCall = 6
code NoSuchHeap = 7
code NoSuchItem = 8
code ItemInHeap = 9
code ItemFree = 10
code LargerKey = 11
code EmptyHeap = 12
code SameHeap = 13
code PlaceCount = 14
code StartPlace = 15
code SpanLists = 16
code ResultLists = 17
code SpanEnds = 18
code SpanLoss = 19
code SpanOrder = 20
code MalformedMap = 21
code PlaceList = 22
code SupplyWindow = 23
code Minute = 24
code KeyOverflow = 25

-- the code of what may be refused: 0 if it is not
unfoldable pub code_of : {A : Type 0} → Result A Refusal → ℕ
code_of (Ok a) = 0
code_of (Err e) = code e
