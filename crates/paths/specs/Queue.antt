-- The queue as the finder sees it, whatever engine serves it: which places wait, and with which keys.
use Rattle.std.specs.Prelude.{ℕ, suc, List, [], ◌∷◌, Bool, cond, get_or, set, replicate, eqb}
use Rattle.rules.specs.Order.{least_of}

-- 1 for a place that waits, else 0; and its key, else 0
pub record Queue : Type 0 where
  pub waits : List ℕ
  pub key : List ℕ

abbrev pub none_wait : ℕ → Queue
none_wait n = record { waits = replicate n 0; key = replicate n 0 }

abbrev pub enter : ℕ → ℕ → Queue → Queue
enter p k q = record { waits = set q.waits p 1; key = set q.key p k }

abbrev pub lower : ℕ → ℕ → Queue → Queue
lower p k q = record { waits = q.waits; key = set q.key p k }

abbrev pub leave : ℕ → Queue → Queue
leave p q = record { waits = set q.waits p 0; key = set q.key p 0 }

-- the places that wait, ascending, of a list that begins with place i
unfoldable pub waiting : ℕ → List ℕ → List ℕ
waiting i [] = []
waiting i (w ∷ ws) = cond (eqb w 0) (waiting (suc i) ws) (i ∷ waiting (suc i) ws)

-- what comes next: a place is taken, or the finder halts
pub data NextPlace : Type 0 where
  halts : NextPlace
  takes : ℕ → NextPlace

-- The stopping rule, a value: the keys at which the finder halts though a place waits.
abbrev pub Stop : Type 0
Stop = ℕ → Bool

-- Of those that wait the least is taken, by key, then by number, unless the stopping rule says no.
unfoldable pub next_of : Stop → List ℕ → List ℕ → NextPlace
next_of stop key [] = halts
next_of stop key (x ∷ xs) = let u = least_of key x xs in cond (stop (get_or key u 0)) halts (takes u)

unfoldable pub next : Stop → Queue → NextPlace
next stop q = next_of stop q.key (waiting 0 q.waits)
