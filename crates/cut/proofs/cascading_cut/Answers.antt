-- `cut::cascading_cut` meets its contract. Invariant: what remains from here on gives the whole.
use Prim.Native.Nat.{◌+◌, ◌-◌}
use mathlib.Core.Path.{◌≡◌, sym, ◌∙◌}
use mathlib.Core.Logic.{◌≢◌}
use native.Mathlib.Omega.{arith}
use Rattle.rules.specs.Cut.{cut}
use Rattle.rules.specs.Forests.{none, parent_of}
use Rattle.cut.proofs.Cutting.{after-cut, member_item, parent_word, state_word, state_small}
use Rattle.cut.proofs.Cascading.{cascade_start, cascade_end, cascade_root, cascade_mark, cascade_turn}
use Rattle.cut.proofs.cascading_cut.Goals as goal

pub returns-then-q : goal.returns-then-q
returns-then-q c = λ amounts counts minima t H M.
    let G = c.loop-cuts.invariant.goes_on amounts counts minima t H M in
    cascade_root _ G (omega arith)
    (sym (parent_word G.holds (member_item G.holds G.member)) ∙ sym c.get-q.ensures ∙ c.if-q.true)

pub overflow_add-v : goal.overflow_add-v
overflow_add-v c =
    let R = c.loop-cuts.invariant.ready in
    omega (arith, c.get-v.ensures, state_word R.holds (member_item R.holds R.member), state_small R.member)

pub returns-then-v-eq1 : goal.returns-then-v-eq1
returns-then-v-eq1 c = λ amounts counts minima t H M.
    let G = c.loop-cuts.invariant.goes_on amounts counts minima t H M in
    let i = member_item G.holds G.member in
    cascade_mark _ _ G (omega arith) (λ z. c.if-q.false (c.get-q.ensures ∙ parent_word G.holds i ∙ z))
    (c.get-v.ensures ∙ state_word G.holds i) c.if-v-eq1.true c.put.ensures

pub cut-requires : goal.cut-requires
cut-requires c =
    let R = c.loop-cuts.invariant.ready in
    record {
      amounts = R.amounts;
      counts = R.counts;
      minima = R.minima;
      forests = R.forests;
      holds = R.holds;
      child = record {
        member = R.member;
        child = λ z. c.if-q.false (c.get-q.ensures ∙ parent_word R.holds (member_item R.holds R.member) ∙ z);
      };
    }

pub loop-cuts-preserved : goal.loop-cuts-preserved
loop-cuts-preserved c = record {
  ready =
      let R = c.loop-cuts.invariant.ready in
      let ne : parent_of R.forests c.loop-cuts.p ≢ none =
      λ z. c.if-q.false (c.get-q.ensures ∙ parent_word R.holds (member_item R.holds R.member) ∙ z) in
      let q : c.get-q.result ≡ parent_of R.forests c.loop-cuts.p = c.get-q.ensures ∙ parent_word R.holds (member_item R.holds R.member) in
      record {
        amounts = R.amounts;
        counts = R.counts;
        minima = R.minima;
        forests = cut c.args.h c.loop-cuts.p R.forests;
        holds = c.cut.ensures R.amounts R.counts R.minima R.forests R.holds (record { member = R.member; child = ne });
        member = rw q (after-cut R.forests c.args.h c.loop-cuts.p R.member ne);
      };
  goes_on = λ amounts counts minima t H M.
      let G = c.loop-cuts.invariant.goes_on amounts counts minima t H M in
      let i = member_item G.holds G.member in
      let ne : parent_of G.here c.loop-cuts.p ≢ none =
      λ z. c.if-q.false (c.get-q.ensures ∙ parent_word G.holds i ∙ z) in
      let e : c.args.n + 1 - c.loop-cuts.cuts - 1 ≡ c.args.n + 1 - (c.loop-cuts.cuts + 1) = omega arith in
      rw (← e)
      (cascade_turn _ _ _ G (omega arith) ne (c.get-v.ensures ∙ state_word G.holds i) c.if-v-eq1.false
      (c.get-q.ensures ∙ parent_word G.holds i)
      (c.cut.ensures amounts counts minima G.here G.holds (record { member = G.member; child = ne })));
}

pub returns : goal.returns
returns c = λ amounts counts minima t H M.
    let e : c.loop-cuts.cuts ≡ c.args.n + 1 = omega arith in
    rw (← e) (cascade_end _ (c.loop-cuts.invariant.goes_on amounts counts minima t H M) (omega arith))

pub loop-cuts-init : goal.loop-cuts-init
loop-cuts-init c = record { ready = c.requires; goes_on = λ amounts counts minima t H M. cascade_start H M }
