-- The exchange law: a job moved to an earlier slot where it may run. Assumes nothing.
-- Its definitions: specs/Exchange.antt.
use Rattle.std.specs.Prelude.{◌≡◌, List, ℕ, ◌+◌, ◌≤◌, ◌<◌, length, set}
use Rattle.std.proofs.Common.{sym, ◌∙◌, inl, inr, arith}
use Rattle.std.proofs.Math.Option.{some}
use Rattle.rules.specs.Basics.{at, count}
use Rattle.rules.specs.Needs.{Need, Gives}
use Rattle.rules.specs.Program.{Kept}
use Rattle.rules.specs.Preference.{Preferred, best}
use Rattle.rules.specs.Boards.{in_slot, Runs, runsb}
use Rattle.laws.specs.Preference.{Weak-antisym}
use Rattle.laws.specs.Best.{NoWorse, BestWithin, best-is}
use Rattle.dominance.specs.Exchange.{May, Moved, here, stays, moved, moved-capped, earlier-preferred, earlier-fits, earlier-slots, Exchanged}

-- ---- a slot where the job may run

module _ (N : ℕ → ℕ → Type 0) (u : List ℕ) (x s : ℕ) (x-in : x < length u) (k : Kept N (at u)) (m : May N s u x) where
  -- the list after the move
  abbrev v : List ℕ
  v = set u x s

  later : (g c : ℕ) → N g c → at v g + 1 ≤ at v c
  later g c a = go (moved u x s x-in g) (moved u x s x-in c)
    where
      go : Moved u x s g → Moved u x s c → at v g + 1 ≤ at v c
      go (here e p q) (here f y z) = absurd (omega (arith, k.later g c a))
      go (here e p q) (stays f y) = omega (arith, k.later g c a, m.later)
      go (stays e p) (here f y z) = omega (arith, m.able.ready g (rw f at a))
      go (stays e p) (stays f y) = omega (arith, k.later g c a)

  give-one : (g b c : ℕ) → N g b → N g c → at v b ≡ at v g + 1 → at v c ≡ at v g + 1 → b ≡ c
  give-one g b c p q eb ec = go (moved u x s x-in g) (moved u x s x-in b) (moved u x s x-in c)
    where
      go : Moved u x s g → Moved u x s b → Moved u x s c → b ≡ c
      go (here e w z) (here f y i) mc = absurd (omega (arith, k.later g b p))
      go (here e w z) (stays f y) mc = absurd (omega (arith, k.later g b p, m.later))
      go (stays e w) (here f y z) (here h i j) = f ∙ sym h
      go (stays e w) (here f y z) (stays h i) = absurd (m.give-one g c (rw f at p) q (omega arith) (omega arith))
      go (stays e w) (stays f y) (here h i j) = absurd (m.give-one g b (rw h at q) p (omega arith) (omega arith))
      go (stays e w) (stays f y) (stays h i) = k.give-one g b c p q (omega arith) (omega arith)

  take-one : (a b c : ℕ) → N a c → N b c → at v a + 1 ≡ at v c → at v b + 1 ≡ at v c → a ≡ b
  take-one a b c p q ea eb = go (moved u x s x-in c) (moved u x s x-in a) (moved u x s x-in b)
    where
      go : Moved u x s c → Moved u x s a → Moved u x s b → a ≡ b
      go (here e w z) (here f y i) mb = absurd (omega (arith, k.later a c p))
      go (here e w z) (stays f y) (here h i j) = absurd (omega (arith, k.later b c q))
      go (here e w z) (stays f y) (stays h i) = m.able.take-one a b (rw e at p) (rw e at q) (omega arith) (omega arith)
      go (stays e w) (here f y z) mb = absurd (omega (arith, k.later a c p, m.later))
      go (stays e w) (stays f y) (here h i j) = absurd (omega (arith, k.later b c q, m.later))
      go (stays e w) (stays f y) (stays h i) = k.take-one a b c p q (omega arith) (omega arith)

  exchange-kept : Kept N (at (set u x s))
  exchange-kept = record { later = later; give-one = give-one; take-one = take-one }

-- the exchange law: a job moved to an earlier slot where it may run keeps the rules and every limit, makes the list no longer, and the list is preferred
pub exchange : (n : ℕ) (N : ℕ → ℕ → Type 0) (u : List ℕ) (x s : ℕ) → x < n → length u ≡ n → Kept N (at u) → May N s u x → Exchanged n N u (set u x s)
exchange n N u x s h l k m = record {
  kept = exchange-kept N u x s (omega arith) k m;
  fits = earlier-fits n u x s h l m.later;
  no_longer = earlier-slots n u x s h l m.later;
  preferred = earlier-preferred n u x s h l m.later;
}

-- ---- the best list

module _ (n : ℕ) (needs : List Need) (c L : ℕ) (t : List ℕ) (is-best : best n (runsb n needs c) L ≡ some t) where
  found : BestWithin n L (Runs n needs c) (some t)
  found = rw is-best at (best-is n needs c L)

  -- no job of the best list can be moved to an earlier slot by itself
  pub best-settled : (x s : ℕ) → x < n → s < at t x → Runs n needs c (set t x s) → ⊥
  best-settled x s h l k = go (found.2 (set t x s) k (earlier-fits n t x s h len l L found.1))
    where
      len : length t ≡ n
      len = found.1.len

      p : Preferred n (set t x s) t
      p = earlier-preferred n t x s h len l

      go : NoWorse n t (set t x s) → ⊥
      go (inl q) = omega (arith, earlier-slots n t x s h len l)
      go (inr q) = p.lacks (rw (← (Weak-antisym n t (set t x s) q.1 (inr p))) at p.has)

  -- so no job of it may join an earlier slot that has room
  pub best-no-may : (x s : ℕ) → x < n → count (in_slot t s) n < c → May (Gives needs) s t x → ⊥
  best-no-may x s h r m = best-settled x s h m.later record {
    kept = (exchange n (Gives needs) t x s h found.1.len found.0.kept m).kept;
    capped = moved-capped n c t x s (omega (arith, found.1.len)) r found.0.capped;
  }
