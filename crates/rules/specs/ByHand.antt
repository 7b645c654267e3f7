-- The runs worked by hand: one table, and the claim that the rules give it. Rows (a) to (h) are the scope paper's; the
-- others show what its runs do not reach: equal keys, a marked child released, M and J, and raises (RaisesByHand).
use Rattle.std.specs.Prelude.{◌≡◌, List, [], ◌∷◌, ◌++◌, map, Some}
use Rattle.rules.specs.declared.Call.TheVariants.{Insert, FindMin, ExtractMin, DecreaseKey, Delete, Meld}
use Rattle.rules.specs.Lines.{Line}
use Rattle.rules.specs.WorkedRow.{Worked, rank, run, by_rules, sees, reply}
use Rattle.rules.specs.RaisesByHand.{raise_rows}

-- ---- the paper's runs

unfoldable pub lines_b : List Line
lines_b =
    Some (Insert 0 0 5) ∷ Some (Insert 0 1 3) ∷ Some (Insert 0 2 8) ∷ Some (Insert 0 3 1)
    ∷ Some (ExtractMin 0) ∷ []

unfoldable pub run_b : Worked
run_b = run lines_b (sees (reply 0 3 1 1 0) (2 ∷ 1 ∷ []) ((1, 0 ∷ []) ∷ []) [] 2 1 6)

unfoldable pub run_c : Worked
run_c =
    run (lines_b ++ Some (DecreaseKey 0 4) ∷ [])
    (sees (reply 0 0 4 0 0) (2 ∷ 1 ∷ []) ((1, 0 ∷ []) ∷ []) [] 2 1 10)

unfoldable pub run_d : Worked
run_d = run (lines_b ++ Some (DecreaseKey 0 3) ∷ []) (sees (reply 0 0 3 0 1) (2 ∷ 1 ∷ 0 ∷ []) [] [] 3 2 10)

unfoldable pub lines_e : List Line
lines_e =
    Some (Insert 0 0 0) ∷ Some (Insert 0 1 10) ∷ Some (Insert 0 2 20) ∷ Some (Insert 0 3 30)
    ∷ Some (Insert 0 4 40) ∷ Some (Insert 0 5 50) ∷ Some (Insert 0 6 60) ∷ Some (Insert 0 7 70)
    ∷ Some (Insert 0 8 80) ∷ Some (ExtractMin 0) ∷ []

unfoldable pub run_e : Worked
run_e =
    run lines_e
    (sees (reply 0 0 0 7 0) (1 ∷ []) ((1, 2 ∷ 3 ∷ 5 ∷ []) ∷ (3, 4 ∷ []) ∷ (5, 6 ∷ 7 ∷ []) ∷ (7, 8 ∷ []) ∷ [])
    [] 1 7 13)

-- (f) after its first call, its second and its third
unfoldable pub lines_f1 : List Line
lines_f1 = lines_e ++ Some (DecreaseKey 8 5) ∷ []

unfoldable pub run_f1 : Worked
run_f1 =
    run lines_f1
    (sees (reply 0 8 5 0 1) (1 ∷ 8 ∷ []) ((1, 2 ∷ 3 ∷ 5 ∷ []) ∷ (3, 4 ∷ []) ∷ (5, 6 ∷ 7 ∷ []) ∷ []) (7 ∷ []) 4 8 17)

unfoldable pub lines_f2 : List Line
lines_f2 = lines_f1 ++ Some (DecreaseKey 6 4) ∷ []

unfoldable pub run_f2 : Worked
run_f2 =
    run lines_f2
    (sees (reply 0 6 4 0 1) (1 ∷ 8 ∷ 6 ∷ []) ((1, 2 ∷ 3 ∷ 5 ∷ []) ∷ (3, 4 ∷ []) ∷ (5, 7 ∷ []) ∷ []) (5 ∷ 7 ∷ [])
    7 9 21)

unfoldable pub lines_f : List Line
lines_f = lines_f2 ++ Some (DecreaseKey 7 3) ∷ []

unfoldable pub run_f : Worked
run_f =
    run lines_f
    (sees (reply 0 7 3 0 2) (1 ∷ 8 ∷ 6 ∷ 7 ∷ 5 ∷ []) ((1, 2 ∷ 3 ∷ []) ∷ (3, 4 ∷ []) ∷ []) [] 5 11 25)

unfoldable pub lines_g : List Line
lines_g = lines_f ++ Some (Delete 3) ∷ []

unfoldable pub run_g : Worked
run_g = run lines_g (sees (reply 0 3 30 0 1) (1 ∷ 8 ∷ 6 ∷ 7 ∷ 5 ∷ 4 ∷ []) ((1, 2 ∷ []) ∷ []) [] 6 12 32)

unfoldable pub run_h : Worked
run_h =
    run (lines_g ++ Some (ExtractMin 0) ∷ [])
    (sees (reply 0 7 3 3 0) (4 ∷ 6 ∷ []) ((1, 2 ∷ []) ∷ (4, 5 ∷ []) ∷ (6, 8 ∷ 1 ∷ []) ∷ []) [] 2 15 35)

-- ---- what the paper's runs do not reach

-- Of two equal keys the lower item is taken, wherever it stands in the row.
unfoldable pub run_tie : Worked
run_tie =
    run (Some (Insert 0 2 5) ∷ Some (Insert 0 1 5) ∷ Some (ExtractMin 0) ∷ [])
    (sees (reply 0 1 5 0 0) (2 ∷ []) [] [] 1 0 3)

-- The marked item 5 is released by a deletion and loses its mark; 7 below it keeps its own.
unfoldable pub run_release : Worked
run_release =
    run (lines_f2 ++ Some (Delete 1) ∷ [])
    (sees (reply 0 1 10 0 0) (8 ∷ 6 ∷ 2 ∷ 3 ∷ 5 ∷ []) ((3, 4 ∷ []) ∷ (5, 7 ∷ []) ∷ []) (7 ∷ []) 7 9 28)

-- Items 0 and 1 in heap 0, and in heap 1 item 3 with 4 below it; then J,0,1. It answers heap 0 and its four items, and
-- 3 stands after 0 and 1.
unfoldable pub lines_j : List Line
lines_j =
    Some (Insert 0 0 6) ∷ Some (Insert 0 1 4) ∷ Some (Insert 1 2 1) ∷ Some (Insert 1 3 3)
    ∷ Some (Insert 1 4 5) ∷ Some (ExtractMin 1) ∷ Some (Meld 0 1) ∷ []

unfoldable pub run_j : Worked
run_j = run lines_j (sees (reply 0 0 4 0 0) (0 ∷ 1 ∷ 3 ∷ []) ((3, 4 ∷ []) ∷ []) [] 3 1 7)

-- M: the minimum of heap 0 came from heap 1, which is now empty (12).
unfoldable pub run_m : Worked
run_m =
    run (lines_j ++ Some (FindMin 0) ∷ []) (sees (reply 0 3 3 0 0) (0 ∷ 1 ∷ 3 ∷ []) ((3, 4 ∷ []) ∷ []) [] 3 1 7)

unfoldable pub run_emptied : Worked
run_emptied =
    run (lines_j ++ Some (FindMin 1) ∷ []) (sees (reply 12 0 0 0 0) (0 ∷ 1 ∷ 3 ∷ []) ((3, 4 ∷ []) ∷ []) [] 3 1 7)

-- What was below 3 in heap 1 is an item of heap 0: a cut takes it to that row.
unfoldable pub run_moved : Worked
run_moved =
    run (lines_j ++ Some (DecreaseKey 4 2) ∷ [])
    (sees (reply 0 4 2 0 1) (0 ∷ 1 ∷ 3 ∷ 4 ∷ []) [] [] 4 2 11)

-- Heap 1 is used and joined again: item 5 comes last, and the minimum is the one that heap 0 had.
unfoldable pub run_join_again : Worked
run_join_again =
    run (lines_j ++ Some (Insert 1 5 8) ∷ Some (Meld 0 1) ∷ Some (FindMin 0) ∷ [])
    (sees (reply 0 3 3 0 0) (0 ∷ 1 ∷ 3 ∷ 5 ∷ []) ((3, 4 ∷ []) ∷ []) [] 4 1 8)

unfoldable pub worked_table : List Worked
worked_table =
    rank 1 0 ∷ rank 2 1 ∷ rank 3 2 ∷ rank 4 2 ∷ rank 5 3 ∷ rank 8 4
    ∷ run_b ∷ run_c ∷ run_d ∷ run_e ∷ run_f1 ∷ run_f2 ∷ run_f ∷ run_g ∷ run_h ∷ run_tie ∷ run_release
    ∷ run_j ∷ run_m ∷ run_emptied ∷ run_moved ∷ run_join_again ∷ raise_rows

abbrev pub WorkedRuns : Type 0
WorkedRuns = map by_rules worked_table ≡ worked_table
