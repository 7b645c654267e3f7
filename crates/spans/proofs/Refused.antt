-- Tests one after the other: the first that refuses gives the code.
use Prim.Native.Nat.{ℕ}
use Rattle.std.proofs.Common.{Ok, Err}
use mathlib.Core.Path.{◌≡◌, sym, ◌∙◌}
use borrow.Author.Tests.{eq-eqb, ne_eqb}
use Rattle.rules.specs.declared.Refusal.{Refusal}
use Rattle.rules.proofs.Codes.{some_code}
use Rattle.rules.specs.Refusals.{code_of}
use Rattle.paths.specs.Codes.{first_code}

-- the first test that refuses
pub stops : (e : Refusal) (late : ℕ) {x : ℕ} → code_of {A = Unit {0}} (Err e) ≡ x
    → code_of {A = Unit {0}} (Err e) ≡ first_code x late
unfolding code_of
stops e late {x} q = q ∙ rw (ne_eqb x 0 (λ z. some_code e (q ∙ z)))

-- a test that does not refuse
pub goes : {x : ℕ} (late : ℕ) {r : ℕ} → code_of {A = Unit {0}} (Ok tt) ≡ x → r ≡ late → r ≡ first_code x late
unfolding code_of
goes {x} late q w = rw (eq-eqb x 0 (sym q)) w
