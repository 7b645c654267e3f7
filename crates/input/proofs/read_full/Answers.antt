-- What a read adds to the front of the buffer is what the reader loses.
use Rattle.std.proofs.Common.{◌≡◌, ℕ, ◌+◌, ◌≤◌, List, ◌++◌, Some, None, length, take, append_assoc, ap, sym, ◌∙◌, subst, arith, length-take-le}
use Rattle.std.proofs.Math.Seq.{take-append-add}
use Rattle.std.proofs.lemmas.List.{take-append-le}
use Rattle.std.specs.Io.KnownBytes.{Consumes}
use Rattle.std.specs.declared.option.Option.{Option}
use Rattle.input.proofs.read_full.Goals as goal

consumes_both : (a b c : Option (List ℕ)) (front more : List ℕ) → Consumes a b front → Consumes b c more
    → Consumes a c (front ++ more)
consumes_both None b c front more p q = tt
consumes_both (Some x) None c front more p q = absurd p
consumes_both (Some x) (Some y) None front more p q = absurd q
consumes_both (Some x) (Some y) (Some z) front more p q = p ∙ ap (λ l. front ++ l) q ∙ sym (append_assoc front more z)

-- n bytes were read to the start of the part after the front
longer : (front part rest : List ℕ) (at n : ℕ) → length front ≡ at → n ≤ length part
    → take (at + n) (front ++ (part ++ rest)) ≡ front ++ take n part
longer front part rest at n e h =
    ap (λ k. take (k + n) (front ++ (part ++ rest))) (sym e) ∙ take-append-add front (part ++ rest) n
    ∙ ap (λ l. front ++ l) (take-append-le n part rest h)

pub loop-done-preserved : goal.loop-done-preserved
loop-done-preserved g c =
    let buf = c.loop-done.buf in
    let part = c.read.new.buf in
    let bound = c.in_ok-n.ensures.bound in
    record {
      within = grind arith;
      read =
          subst (Consumes _ _) (sym (longer _ part _ c.loop-done.done c.in_ok-n.n (length-take-le _ buf (omega arith)) (omega arith)))
          (consumes_both _ _ _ _ _ c.loop-done.invariant.read c.in_ok-n.ensures.bytes.0);
    }
