-- The heap and key lists after each call: the only items touched are those that the call names.
use Prim.Native.Nat.{ℕ}
use mathlib.Core.Path.{◌≡◌, refl, ap}
use mathlib.Core.List.{List}
use mathlib.Core.Bool.{Bool, true, false}
use lib.ListN.{set}
use Rattle.rules.specs.Calls.{decrease_key, delete_as, extract, has_parent, release, remove_root, set_free}
use Rattle.rules.specs.Consolidate.{Linking, consolidate, consolidate_within, link, link_trees}
use Rattle.rules.specs.Forests.{Forests, heap_number, set_key}
use Rattle.rules.proofs.Cutting.{cut_if_heap, cut_if_key}
use Rattle.rules.proofs.Linking.{link_trees_keeps}

link_trees_heap : (d : ℕ) (xs : List ℕ) (w : Linking) → (link_trees d xs w).forests.heap ≡ w.forests.heap
unfolding link
link_trees_heap d xs w = link_trees_keeps (λ t. t.heap ≡ w.forests.heap) (λ a l t e. e) d xs w refl

link_trees_key : (d : ℕ) (xs : List ℕ) (w : Linking) → (link_trees d xs w).forests.key ≡ w.forests.key
unfolding link
link_trees_key d xs w = link_trees_keeps (λ t. t.key ≡ w.forests.key) (λ a l t e. e) d xs w refl

pub extract_heap : (h x : ℕ) (s : Forests) → (extract h x s).next.heap ≡ set s.heap x 0
unfolding extract consolidate consolidate_within remove_root set_free release
extract_heap h x s = link_trees_heap 18 _ _

pub extract_key : (h x : ℕ) (s : Forests) → (extract h x s).next.key ≡ set s.key x 0
unfolding extract consolidate consolidate_within remove_root set_free release
extract_key h x s = link_trees_key 18 _ _

pub decrease_heap : (i k : ℕ) (s : Forests) → (decrease_key i k s).next.heap ≡ s.heap
unfolding decrease_key
decrease_heap i k s = cut_if_heap _ (heap_number s i) i (set_key i k s)

pub decrease_key_lem : (i k : ℕ) (s : Forests) → (decrease_key i k s).next.key ≡ set s.key i k
unfolding decrease_key
decrease_key_lem i k s = cut_if_key _ (heap_number s i) i (set_key i k s)

pub delete_heap : (b : Bool) (i : ℕ) (s : Forests) → (delete_as b i s).next.heap ≡ set s.heap i 0
unfolding delete_as remove_root set_free release
delete_heap true i s = extract_heap (heap_number s i) i s
delete_heap false i s = ap (λ l. set l i 0) (cut_if_heap (has_parent s i) (heap_number s i) i s)

pub delete_key : (b : Bool) (i : ℕ) (s : Forests) → (delete_as b i s).next.key ≡ set s.key i 0
unfolding delete_as remove_root set_free release
delete_key true i s = extract_key (heap_number s i) i s
delete_key false i s = ap (λ l. set l i 0) (cut_if_key (has_parent s i) (heap_number s i) i s)
