-- T on the words of a sound store: what its steps need, and what the words are at the end.
use Prim.Native.Nat.{ℕ, ◌+◌, ◌≤◌, ◌<◌}
use mathlib.Core.Path.{◌≡◌, refl, sym, ap, ◌∙◌}
use mathlib.Core.Logic.{◌≢◌}
use mathlib.Core.List.{List}
use mathlib.Core.Bool.{Bool, true, false, cond}
use native.Mathlib.Omega.{arith}
use lib.Dec.{eqb}
use lib.ListN.{get_or, set}
use lib.Seq.{get_or-set_same, get_or-set_other}
use borrow.Author.Tests.{eqb-true, eqb-false, ne_eqb}
use Rattle.rules.specs.declared.Call.TheVariants.{ExtractMin}
use Rattle.rules.specs.declared.Field.TheVariants.{Minimum}
use Rattle.rules.specs.Calls.{extract, perform, release, remove_root, set_free}
use Rattle.rules.specs.Consolidate.{consolidate}
use Rattle.rules.specs.Forests.{Forests, children_of, count, heap_number, heap_of, key_of, row_of, table_size}
use Rattle.rules.specs.Lists.{occurs}
use Rattle.rules.specs.Order.{minimum}
use Rattle.rules.specs.Queues.{Queues, after_call, amount_of, amounts_after_call, amounts_left}
use Rattle.rules.specs.WellFormed.{KeysFit, WellFormed, WellFormedQueues}
use Rattle.rules.specs.Words.{decode, encode, encode_in, items_in, look, word, words_with}
use Rattle.rules.proofs.CallsKeep.{perform_kept}
use Rattle.rules.proofs.CountAfter.{extract-count}
use Rattle.rules.proofs.Excused.{to_formed, well_formed}
use Rattle.rules.proofs.KeepsWellFormed.{perform_size}
use Rattle.rules.proofs.Members.{heap_in, row_root}
use Rattle.rules.proofs.Occurs.{by_item}
use Rattle.rules.proofs.Refusals.{extract_ok}
use Rattle.rules.proofs.RemoveRootKeeps.{remove_formed}
use Rattle.rules.proofs.Sizes.{items_in_lem}
use Rattle.rules.proofs.SoundWords.{items-encode, sound_queues, sound_words}
use Rattle.store.specs.Empty.{amount_settled}
use Rattle.store.specs.ItemOrder.{item_key}
use Rattle.store.specs.Says.{Changes, Says}
use Rattle.store.proofs.AmountStored.{settled}
use Rattle.store.proofs.Encoded.{encode-holds, words_say}
use Rattle.store.proofs.SetAt.{get_or_set}
use Rattle.consolidate.specs.Consolidating.{Consolidated, ConsolidateReady, Consolidates}
use Rattle.consolidate.specs.Extract.{ExtractReady, Performs}
use Rattle.consolidate.specs.Removed.{DetachesRoot, RootOf, RootReady}
use Rattle.consolidate.specs.Stored.{Gathered, Rowed}
use Rattle.consolidate.proofs.Beside.{key_beside, reads}
use Rattle.consolidate.proofs.RowedWords.{holds_rowed}

-- a function at g, by whether g is h
cond_own : (a : ℕ → ℕ) (h g : ℕ) → cond (eqb h g) (a h) (a g) ≡ a g
cond_own a h g = go (eqb h g) refl
  where
    go : (b : Bool) → eqb h g ≡ b → cond b (a h) (a g) ≡ a g
    go true e = ap a (eqb-true h g e)
    go false e = refl

module _ {n h links : ℕ} {w : List ℕ} (P : ExtractReady n w h links) where
  abbrev q : Queues
  q = decode n (look n w)

  abbrev t : Forests
  t = q.forests

  items : items_in w ≡ n
  items = items_in_lem w n P.size

  queues : WellFormedQueues q
  queues = rw items at (sound_queues w P.sound)

  abbrev formed : WellFormed t
  formed = queues.forests

  words : w ≡ encode q
  words = rw items at (sound_words w P.sound)

  size : table_size t ≡ n
  size = sym (items-encode q) ∙ sym (ap items_in words) ∙ items

  -- the minimum is a root of h
  stands : 1 ≤ occurs (minimum t h) (row_of t h)
  stands = extract_ok t h P.done

  pub heap_inside : h < 8
  heap_inside =
      omega (
        arith,
        (row_root t formed.disjoint h (minimum t h) stands).0,
        formed.disjoint.heaps (minimum t h),
      )

  -- a sound store holds its forests
  pub sound_rowed : Rowed n h (minimum t h) w (amount_of q) t
  unfolding encode_in words_with
  sound_rowed =
      holds_rowed (amount_of q) t formed.disjoint h
      (rw size at (encode-holds (amount_of q) t formed.disjoint w words))
      (λ g k. refl) (λ g k m. refl)

  module _ {x : ℕ} (ex : x ≡ look n w Minimum h) where
    is_least : x ≡ minimum t h
    is_least = ex ∙ sound_rowed.says.says Minimum h heap_inside ∙ sound_rowed.least

    rooted : RootOf t h x
    rooted =
        let r = row_root t formed.disjoint h (minimum t h) stands in
        rw is_least (record { disjoint = formed.disjoint; member = r.0; root = r.1 })

    pub least_inside : x < n
    least_inside =
        let k = heap_in t x (λ e. omega (arith, e, rooted.member)) in
        omega (arith, size)

    pub detach_ready : RootReady n w h x
    detach_ready =
        record { least = minimum t h; amounts = amount_of q; forests = t; rowed = sound_rowed; rooted = rooted }

    -- the forests without the minimum are well-formed
    keys_fit : KeysFit (remove_root h x t)
    unfolding KeysFit remove_root set_free release
    keys_fit = by_item x
        (rw (get_or-set_same t.key x 0 0 (omega (arith, least_inside, size, formed.disjoint.key_n)))
        (omega arith))
        (λ y m. rw (get_or-set_other t.key x y 0 0 m) (formed.keys y))

    after_formed : WellFormed (remove_root h x t)
    after_formed =
        let F = to_formed t formed in
        well_formed (remove_root h x t)
        (remove_formed t formed.disjoint h x rooted.member rooted.root F.ordered F.ranked)
        keys_fit

    module _ (w₁ : List ℕ) (c : DetachesRoot n w h x w₁) where
      gathered : Gathered n h (minimum t h) w₁ (children_of t x) (amount_of q) (remove_root h x t)
      unfolding DetachesRoot
      gathered = c (minimum t h) (amount_of q) t sound_rowed rooted

      pub consolidate_ready : ConsolidateReady n w₁ h links
      consolidate_ready =
          record {
            heap = heap_inside;
            least = minimum t h;
            amounts = amount_of q;
            forests = remove_root h x t;
            children = children_of t x;
            gathered = gathered;
            formed = after_formed;
            fits = P.fits;
          }

      module _ (links' : ℕ) (w₂ : List ℕ) (f : Consolidates n w₁ h links w₂ links') where
        linked : Consolidated w₂ links' links (amount_of q) (consolidate h (remove_root h x t))
        unfolding Consolidates
        linked = f (minimum t h) (amount_of q) (remove_root h x t) (children_of t x) gathered after_formed

        -- the forests after the call
        abbrev next : Forests
        next = (consolidate h (remove_root h x t)).forests

        next_is : next ≡ (perform t (ExtractMin h)).next
        unfolding perform extract
        next_is = ap (λ y. (consolidate h (remove_root h y t)).forests) is_least

        next_size : table_size next ≡ n
        next_size = ap table_size next_is ∙ perform_size t (ExtractMin h) ∙ size

        pub linked_says : Says n w₂ (word (amount_of q) next)
        linked_says = words_say (amount_of q) next n w₂ next_size sound_rowed.says.sized.small linked.words

        -- one item is gone; if it was the last, the amount is 0
        amounts_left_lem : (g : ℕ) → g < 8
            → amount_of (after_call q (ExtractMin h)) g
            ≡ cond (eqb h g) (cond (eqb (count next h) 0) 0 (amount_of q h)) (amount_of q g)
        unfolding amounts_after_call amounts_left perform
        amounts_left_lem g k = go (eqb (count t h) 1) refl
          where
            one : count next h + 1 ≡ count t h
            one = ap (λ (s : Forests). count s h + 1) next_is ∙ (extract-count t formed.disjoint h P.done).own

            go : (b : Bool) → eqb (count t h) 1 ≡ b
                → get_or (cond b (set q.amounts h 0) q.amounts) g 0
                ≡ cond (eqb h g) (cond (eqb (count next h) 0) 0 (amount_of q h)) (amount_of q g)
            go true e =
                let z : count next h ≡ 0 = omega (arith, eqb-true (count t h) 1 e, one) in
                rw z (get_or_set q.amounts h g 0 0 (omega (arith, queues.amounts8, heap_inside)))
            go false e =
                rw (ne_eqb (count next h) 0 (λ z. eqb-false (count t h) 1 e (omega (arith, z, one))))
                (sym (cond_own (amount_of q) h g))

        pub extract_performs : {k : ℕ} (w₃ : List ℕ) → k ≡ item_key h (look n w) x → Changes n w₂ (amount_settled h) w₃
            → Performs w₃ links x k links' q h
        unfolding perform extract encode_in words_with
        extract_performs {k} w₃ ek c =
            record {
              items = is_least;
              keys = ek
                  ∙ key_beside sound_rowed.beside (reads sound_rowed.says) heap_inside formed.keys x
                  rooted.member
                  ∙ ap (key_of t) is_least;
              tallied = linked.tallied ∙ ap (λ y. links + (consolidate h (remove_root h y t)).links) is_least;
              words = settled (amount_of q) (amount_of (after_call q (ExtractMin h))) next next_size h amounts_left_lem low
                  linked_says c
                  ∙ ap (words_with (amount_of (after_call q (ExtractMin h)))) next_is;
            }
          where
            low : (i : ℕ) → heap_of next i ≢ 0 → heap_number next i < 8
            low i m =
                let D = (perform_kept t (to_formed t formed) (ExtractMin h) P.done).formed.disjoint in
                let e = ap (λ (s : Forests). heap_of s i) next_is in
                omega (arith, D.heaps i, e)
