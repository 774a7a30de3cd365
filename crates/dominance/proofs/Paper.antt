-- The conditions of document 000, section 5.1, of the best start list with at most c jobs in a slot (document 02, request 13): A.1 to A.3 and one next
-- taker hold, and where A.4 or A.5 fails the slot is full. Two lists that were held back. Assumes nothing.
-- Its definitions: specs/Paper.antt.
use Rattle.std.specs.Prelude.{◌≡◌, refl, ◌⊎◌, List, [], ◌∷◌, Bool, ◌&&◌, ℕ, suc, ◌+◌, ◌≤◌, ◌<◌, T, ltb}
use Rattle.std.proofs.Common.{sym, ap, ◌∙◌, inl, inr, arith}
use Rattle.std.proofs.Math.Option.{Option, some}
use Rattle.std.proofs.Math.Decide.{dec_lt, ℕ_discrete}
use Rattle.rules.specs.Basics.{choose, at, imp, all, any, has, filter, range, tabulate, count}
use Rattle.rules.specs.Needs.{Need, Gives, NeedsIn}
use Rattle.rules.specs.Program.{Kept, all₂}
use Rattle.rules.specs.Windows.{latest, untied, release_by, releases, swap}
use Rattle.rules.specs.Preference.{best}
use Rattle.rules.specs.Boards.{in_slot, Runs, runsb}
use Rattle.laws.specs.Tests.{tests}
use Rattle.laws.specs.Releases.{release-le}
use Rattle.laws.specs.Deadlines.{tail-le}
use Rattle.laws.specs.Width.{window}
use Rattle.laws.specs.Best.{BestWithin, best-is}
use Rattle.dominance.specs.Exchange.{Able, May}
use Rattle.dominance.proofs.Exchange.{best-no-may}
use Rattle.dominance.specs.Tries.{or_else, first}
use Rattle.dominance.specs.Sublists.{sublists}
use Rattle.dominance.specs.Placing.{place}
use Rattle.dominance.specs.Search.{all_placed, search}
use Rattle.dominance.specs.Tests.{ableb, giver_beforeb, oneb, servedb}
use Rattle.dominance.specs.Count.{count_up}
use Rattle.dominance.specs.Plan.{forced, tied, ready, tying, tyingb, maximal_sets, full_sets, slot_sets, plan}
use Rattle.dominance.proofs.Plan.{plan-is-best}
use Rattle.dominance.specs.Paper.{Conditions}

module _ (n : ℕ) (needs : List Need) (needs-in : NeedsIn n needs) (c L : ℕ) (t : List ℕ) (is-best : best n (runsb n needs c) L ≡ some t) where
  found : BestWithin n L (Runs n needs c) (some t)
  found = rw is-best at (best-is n needs c L)

  pub best-conditions : (s : ℕ) → Conditions n needs L t s
  best-conditions s = record {
    A1 = λ i. (λ h. split i h (ℕ_discrete (at t i) (suc s)), λ h. join i h);
    A1-apart = λ i a b. omega arith;
    A2-window = λ i h e. (omega (arith, release-le needs (at t) kept n n i), omega (arith, tail-le n needs needs-in L (at t) kept found.1.below n i h));
    A2 = λ g i a e. omega (arith, kept.later g i a);
    A3 = λ g h i a b e p q. kept.take-one g h i a b (omega arith) (omega arith);
    one-next = λ g j k a b e p q. kept.give-one g j k a b (omega arith) (omega arith);
  }
    where
      kept : Kept (Gives needs) (at t)
      kept = found.0.kept

      split : (i : ℕ) → at t i ≤ suc s → Dec (at t i ≡ suc s) → (at t i ≤ s) ⊎ (at t i ≡ suc s)
      split i h (yes e) = inr e
      split i h (no e) = inl (omega arith)

      join : (i : ℕ) → (at t i ≤ s) ⊎ (at t i ≡ suc s) → at t i ≤ suc s
      join i (inl h) = omega arith
      join i (inr h) = omega arith

  -- a job that may join an earlier slot finds it full: so A.4 and A.5 fail at full slots alone
  pub best-full : (x s : ℕ) → x < n → May (Gives needs) s t x → count (in_slot t s) n ≡ c
  best-full x s h m = go (dec_lt (count (in_slot t s) n) c)
    where
      go : Dec (count (in_slot t s) n < c) → count (in_slot t s) n ≡ c
      go (yes r) = absurd (best-no-may n needs c L t is-best x s h r m)
      go (no r) = omega (arith, found.0.capped.few s)

  -- A.4: a job whose givers have all ended a slot before s starts by s, or slot s is full
  pub soon-or-full : (x s : ℕ) → x < n → ((g : ℕ) → Gives needs g x → at t g + 1 < s) → (at t x ≤ s) ⊎ (count (in_slot t s) n ≡ c)
  soon-or-full x s h ended = go (dec_lt s (at t x))
    where
      go : Dec (s < at t x) → (at t x ≤ s) ⊎ (count (in_slot t s) n ≡ c)
      go (no l) = inl (omega arith)
      go (yes l) = inr (best-full x s h record {
        able = record { free = omega arith; ready = λ g a. omega (arith, ended g a); take-one = λ i j a b p q. absurd (omega (arith, ended i a)) };
        later = l;
        give-one = λ g k a b p q. omega (arith, ended g a);
      })

  -- A.5: where a taker of a job of the slot before s may run in s, and no other taker of that job runs there, it starts in s, or slot s is full
  pub next-or-full : (g x s : ℕ) → x < n → Gives needs g x → at t g + 1 ≡ s → Able (Gives needs) s t x → ((k : ℕ) → Gives needs g k → at t k ≡ s → k ≡ x)
      → (at t x ≡ s) ⊎ (count (in_slot t s) n ≡ c)
  next-or-full g x s h a e able only = go (dec_lt s (at t x))
    where
      go : Dec (s < at t x) → (at t x ≡ s) ⊎ (count (in_slot t s) n ≡ c)
      go (no l) = inl (omega (arith, able.free))
      go (yes l) = inr (best-full x s h record {
        able = able;
        later = l;
        give-one = λ i k p q u v. let i-is : i ≡ g = able.take-one i g p a u e in let k-is : k ≡ x = only k (rw i-is at q) v in omega (arith, ap (at t) k-is);
      })

-- ---- lists that were held back

-- the model of the search, computed
unfoldable planned : ℕ → List Need → ℕ → ℕ → Option (List ℕ)
unfolding plan count_up search all_placed first or_else place slot_sets maximal_sets full_sets forced tied ready tying tyingb sublists window ableb giver_beforeb oneb
    servedb
    releases release_by untied latest swap has any all₂ all imp filter range tabulate choose
planned = plan

-- every need of a list is between n jobs
unfoldable insideb : ℕ → List Need → Bool
unfolding all
insideb n needs = all (λ d. ltb d.0 n && ltb d.1 n) needs

-- where that is so, the best list can be computed
best-computed : (n : ℕ) (needs : List Need) (c L : ℕ) → T (insideb n needs) → 0 < L → best n (runsb n needs c) L ≡ planned n needs c L
unfolding planned insideb
best-computed n needs c L inside l = sym (plan-is-best n needs c L (λ g k m. (simp tests at inside) (g, k) m) l)

-- five jobs, two boards: 1 gives to 2, 2 and 4 give to 3. Job 0, which needs nothing, waits for slot 1: beside 1 or 4 in slot 0 it would cost a fourth slot
pub held_back : best 5 (runsb 5 ((1, 2) ∷ (2, 3) ∷ (4, 3) ∷ []) 2) 5 ≡ some (1 ∷ 0 ∷ 1 ∷ 2 ∷ 0 ∷ [])
unfolding planned insideb
held_back = best-computed 5 ((1, 2) ∷ (2, 3) ∷ (4, 3) ∷ []) 2 5 tt (omega arith) ∙ refl

-- with three boards it does not
pub not-held : best 5 (runsb 5 ((1, 2) ∷ (2, 3) ∷ (4, 3) ∷ []) 3) 5 ≡ some (0 ∷ 0 ∷ 1 ∷ 2 ∷ 0 ∷ [])
unfolding planned insideb
not-held = best-computed 5 ((1, 2) ∷ (2, 3) ∷ (4, 3) ∷ []) 3 5 tt (omega arith) ∙ refl

-- five jobs without needs, two boards: A.4 would have job 4 in slot 1
pub waits : best 5 (runsb 5 [] 2) 5 ≡ some (0 ∷ 0 ∷ 1 ∷ 1 ∷ 2 ∷ [])
unfolding planned insideb
waits = best-computed 5 [] 2 5 tt (omega arith) ∙ refl

-- five jobs, two boards, 0 gives to 4: A.5 fails, in slot 1 no taker of 0 runs, though 4 could
pub no-next : best 5 (runsb 5 ((0, 4) ∷ []) 2) 5 ≡ some (0 ∷ 0 ∷ 1 ∷ 1 ∷ 2 ∷ [])
unfolding planned insideb
no-next = best-computed 5 ((0, 4) ∷ []) 2 5 tt (omega arith) ∙ refl
