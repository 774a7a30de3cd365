-- The fewest slots of a set of needs (document 02, request 14): those of the best list within as many slots as there are jobs, and the planner's.
-- Assumes nothing.
use Rattle.std.specs.Prelude.{◌≡◌, true, length, T}
use Rattle.std.proofs.Math.Path.{refl, ap}
use Rattle.std.proofs.Common.{sym, ◌∙◌, inl, inr, zero-add}
use Rattle.std.proofs.Math.Logic.{⊎_elim}
use mathlib.Core.List.Memᴰ
use mathlib.Core.List.{List, [], ◌∷◌, map, Memᴰ}
use Rattle.std.proofs.Math.Option.{Option, none, some}
use Prim.Native.Nat.{ℕ, ◌+◌, ◌*◌, ◌%◌, ◌≤◌, ◌<◌, min, suc}
use native.Mathlib.Omega.{arith}
use Rattle.std.proofs.Math.Decide.{dec_lt}
use Rattle.std.proofs.Math.Dec.{ltb}
use Rattle.rules.specs.Sizes.{max_width}
use Rattle.rules.specs.Basics.{at, filter, count, tabulate, largest}
use Rattle.rules.specs.Fields.{got}
use Rattle.rules.specs.Needs.{Need, Gives, NeedsIn, Circle}
use Rattle.rules.specs.JobFile.{JobFile, most_boards}
use Rattle.rules.specs.Program.{slots, Fits, Kept, keptb}
use Rattle.rules.specs.Windows.{release, tail, width}
use Rattle.rules.specs.Preference.{start_lists, best}
use Rattle.rules.specs.Table.{Table}
use Rattle.rules.specs.Answers.{table_of, tabled, plan_table}
use Rattle.rules.specs.SmallGates.{needs_of, gates, smaller, least_of, fewest}
use Rattle.laws.specs.Tests.{T-ltb}
use Rattle.laws.specs.Lists.{Within, map-mem, map-mem⁻¹, filter-mem, filter-mem⁻¹, tabulate-at, length-tabulate}
use Rattle.laws.specs.Counting.{count-lt, count_most, most-le}
use Rattle.laws.specs.JobFile.{Readable, needs-in as file-needs-in}
use Rattle.laws.specs.Program.{kept-is}
use Rattle.laws.specs.Releases.{release-later}
use Rattle.laws.specs.Width.{file_width, window, width-window}
use Rattle.laws.specs.Best.{NoWorse, BestWithin, best_of, best-same, start-lists-all, start-lists-fit}
use Rattle.laws.specs.Planned.{wide_enough, asked-13}
use Rattle.laws.specs.Pairs.{pair-second, pair-before}
use Rattle.laws.specs.SmallGates.{SameNeeds, circle-same, needs-of-in, gates-are}

-- ---- the least of a list

-- none: the list is empty; a number: it is an entry, and no entry is smaller
abbrev pub LeastOf : List ℕ → Option ℕ → Type 0
LeastOf l none = (x : ℕ) → Memᴰ x l → ⊥
LeastOf l (some v) = Memᴰ v l × ((x : ℕ) → Memᴰ x l → v ≤ x)

-- `least_of` finds it
pub least-is : (l : List ℕ) → LeastOf l (least_of l)
unfolding least_of
least-is [] = λ x m. Memᴰ.not-nil m
least-is (x ∷ l) = step (least_of l) (least-is l)
  where
    step : (o : Option ℕ) → LeastOf l o → LeastOf (x ∷ l) (some (smaller x o))
    step none h = unfold smaller in (Memᴰ.head refl, λ y m. ⊎_elim (λ e. omega (arith, e)) (λ k. absurd (h y k)) (Memᴰ.cases_cons m))
    step (some v) h = unfold smaller in (go (dec_lt x v), λ y m. ⊎_elim (λ e. omega (arith, e)) (λ k. omega (arith, h.1 y k)) (Memᴰ.cases_cons m))
      where
        go : Dec (x < v) → Memᴰ (min x v) (x ∷ l)
        go (yes p) = let e : min x v ≡ x = omega arith in Memᴰ.head e
        go (no p) = let e : min x v ≡ v = omega arith in Memᴰ.tail {xs = l} (rw e h.0)

-- there is one such result
pub least-only : (l : List ℕ) (o p : Option ℕ) → LeastOf l o → LeastOf l p → o ≡ p
least-only l none none a b = refl
least-only l none (some v) a b = absurd (a v b.0)
least-only l (some u) none a b = absurd (b u a.0)
least-only l (some u) (some v) a b = ap some (omega (arith, a.1 v b.0, b.1 u a.0))

-- lists with the same entries have the same least
pub least-same : (k l : List ℕ) → Within k l → Within l k → least_of k ≡ least_of l
least-same k l f g = least-only l (least_of k) (least_of l) (go (least_of k) (least-is k)) (least-is l)
  where
    go : (o : Option ℕ) → LeastOf k o → LeastOf l o
    go none h = λ x m. h x (g x m)
    go (some v) h = (f v h.0, λ x m. h.1 x (g x m))

-- ---- the fewest slots are the best list's

-- the slots of a list that may be there
unfoldable pub slots_of : Option (List ℕ) → Option ℕ
slots_of none = none
slots_of (some t) = some (slots t)

pub fewest-best : (n : ℕ) (needs : List Need) → fewest n needs ≡ slots_of (best n (keptb needs) n)
unfolding fewest slots_of
fewest-best n needs =
    least-only (map slots found) (least_of (map slots found)) (slots_of (best n (keptb needs) n)) (least-is (map slots found))
    (go (best n (keptb needs) n) (best_of n (keptb needs) (λ u. Kept (Gives needs) (at u)) (kept-is needs) n))
  where
    found : List (List ℕ)
    found = filter (keptb needs) (start_lists n n)

    inside : (u : List ℕ) → Kept (Gives needs) (at u) → Fits n n u → Memᴰ (slots u) (map slots found)
    inside u k f = map-mem slots found u (filter-mem (keptb needs) (start_lists n n) u (start-lists-all n n u f) ((kept-is needs u).1 k))

    -- what holds of the slots of every list that keeps the rules holds of the numbers compared
    each : (P : ℕ → Type 0) → ((u : List ℕ) → Kept (Gives needs) (at u) → Fits n n u → P (slots u)) → (v : ℕ) → Memᴰ v (map slots found) → P v
    each P h = map-mem⁻¹ P slots found (λ u m.
        let w = filter-mem⁻¹ (keptb needs) (start_lists n n) u m in
        h u ((kept-is needs u).0 w.1) (start-lists-fit n n u w.0))

    as-few : (t u : List ℕ) → NoWorse n t u → slots t ≤ slots u
    as-few t u (inl h) = omega arith
    as-few t u (inr h) = omega (arith, h.0)

    go : (o : Option (List ℕ)) → BestWithin n n (λ u. Kept (Gives needs) (at u)) o → LeastOf (map slots found) (slots_of o)
    go none b = each (λ v. ⊥) b
    go (some t) b = (inside t b.0 b.1, each (λ v. slots t ≤ v) (λ u k f. as-few t u (b.2 u k f)))

-- they depend on the set of needs alone
pub fewest-same : (n : ℕ) (ds es : List Need) → SameNeeds ds es → fewest n ds ≡ fewest n es
fewest-same n ds es s =
    let both = best-same n (keptb ds) (keptb es) n (λ u _. (passes ds es s u, passes es ds (λ g k. ((s g k).1, (s g k).0)) u)) in
    fewest-best n ds ∙ ap slots_of both ∙ sym (fewest-best n es)
  where
    passes : (ds es : List Need) → SameNeeds ds es → (u : List ℕ) → T (keptb ds u) → T (keptb es u)
    passes ds es s u h = let k = (kept-is ds u).0 h in (kept-is es u).1 record {
      later = λ g j m. k.later g j ((s g j).1 m);
      give-one = λ g i j m w. k.give-one g i j ((s g i).1 m) ((s g j).1 w);
      take-one = λ i j g m w. k.take-one i j g ((s i g).1 m) ((s j g).1 w);
    }

-- ---- as many slots as jobs are enough: one job after the other, by release and then by number

module _ (n : ℕ) (needs : List Need) where
  -- the order of the jobs: by release, then by number
  abbrev pub key : ℕ → ℕ
  key i = release n needs i * n + i

  -- no two jobs have the same key
  key_one : (i j : ℕ) → i < n → j < n → key i ≡ key j → i ≡ j
  key_one i j a b e = sym (pair-second n (release n needs i) i a) ∙ ap (λ (x : ℕ). x % n) e ∙ pair-second n (release n needs j) j b

  -- the start of job i: how many jobs come before it
  unfoldable pub serial : ℕ → ℕ
  serial i = count (λ j. ltb (key j) (key i)) n

  serial-lt : (i j : ℕ) → i < n → key i < key j → serial i < serial j
  unfolding serial
  serial-lt i j h l =
      count-lt (λ x. ltb (key x) (key i)) (λ x. ltb (key x) (key j)) n i
      (λ x _ w. (T-ltb (key x) (key j)).1 (omega (arith, (T-ltb (key x) (key i)).0 w))) h
      (λ w. omega (arith, (T-ltb (key i) (key i)).0 w)) ((T-ltb (key i) (key j)).1 l)

  serial-below : (i : ℕ) → i < n → serial i < n
  unfolding serial
  serial-below i h = omega (
    arith,
    count-lt (λ x. ltb (key x) (key i)) (λ x. true) n i (λ _ _ _. tt) h (λ w. omega (arith, (T-ltb (key i) (key i)).0 w)) tt,
    count_most (λ x. true) n,
  )

  -- no two jobs start together
  serial-one : (i j : ℕ) → i < n → j < n → serial i ≡ serial j → i ≡ j
  serial-one i j a b e = go (dec_lt (key i) (key j)) (dec_lt (key j) (key i))
    where
      go : Dec (key i < key j) → Dec (key j < key i) → i ≡ j
      go (yes h) _ = absurd (omega (arith, serial-lt i j a h))
      go (no h) (yes l) = absurd (omega (arith, serial-lt j i b l))
      go (no h) (no l) = key_one i j a b (omega arith)

  -- these starts, as a list
  unfoldable pub one_by_one : List ℕ
  one_by_one = tabulate serial n 0

  pub serial-at : (i : ℕ) → i < n → at one_by_one i ≡ serial i
  unfolding one_by_one
  serial-at i h = tabulate-at serial n 0 i 0 h ∙ ap serial (zero-add i)

  pub serial-fits : Fits n n one_by_one
  unfolding one_by_one
  serial-fits = record { len = length-tabulate serial n 0; below = λ i h. omega (arith, serial-at i h, serial-below i h) }

  module _ (needs-in : NeedsIn n needs) (free : ¬ (Circle needs)) where
    -- a taker comes after its giver
    key-later : (g k : ℕ) → Gives needs g k → key g < key k
    key-later g k m = omega (
      arith,
      pair-before n (release n needs g) g (release n needs k) (omega (arith, release-later needs-in free g k m)) (needs-in g k m).0,
    )

    pub serial-kept : Kept (Gives needs) (at one_by_one)
    serial-kept = record {
      later = λ g k m. let w = needs-in g k m in omega (arith, serial-at g w.0, serial-at k w.1, serial-lt g k w.0 (key-later g k m));
      give-one = λ g j k a b p q. same j k (needs-in g j a).1 (needs-in g k b).1 (omega (arith, p, q));
      take-one = λ i j k a b p q. same i j (needs-in i k a).0 (needs-in j k b).0 (omega (arith, p, q));
    }
      where
        same : (i j : ℕ) → i < n → j < n → at one_by_one i ≡ at one_by_one j → i ≡ j
        same i j a b e = serial-one i j a b (omega (arith, serial-at i a, serial-at j b, e))

    -- so a list that fits n slots is there
    pub best-there : (t : List ℕ) × (best n (keptb needs) n ≡ some t)
    best-there = go (best n (keptb needs) n) (best_of n (keptb needs) (λ u. Kept (Gives needs) (at u)) (kept-is needs) n)
      where
        go : (o : Option (List ℕ)) → BestWithin n n (λ u. Kept (Gives needs) (at u)) o → (t : List ℕ) × (o ≡ some t)
        go none b = absurd (b one_by_one serial-kept serial-fits)
        go (some t) b = (t, refl)

    -- and the fewest slots are a number: those of the best list
    pub fewest-there : (t : List ℕ) × (best n (keptb needs) n ≡ some t) × (fewest n needs ≡ some (slots t))
    unfolding slots_of
    fewest-there = let w = best-there in (w.0, w.1, fewest-best n needs ∙ ap slots_of w.1)

-- so for each number of the list the fewest slots are a number, and not 0
pub fewest-some : (n m : ℕ) → Memᴰ m (gates n) → (s : ℕ) × (fewest n (needs_of n m) ≡ some (suc s))
unfolding slots
fewest-some n m l = let w = fewest-there n (needs_of n m) (needs-of-in n m) ((gates-are n m).0 l).1 in (largest w.0, w.2)

-- ---- "the planner with limit n must give the same"

-- no slot is in more windows than there are jobs
pub width-jobs : (n : ℕ) (needs : List Need) (L : ℕ) → width n needs L ≤ n
width-jobs n needs L =
    let held = window (release n needs) (tail n needs) L in
    omega (arith, width-window n needs L, most-le (λ s. count (held s) n) L n (λ s _. count_most (held s) n))

-- of a file with as many jobs as its limit, at least as many boards, and no circle: the planner gives a table, and the fewest slots are that table's
pub planner-fewest : (f : JobFile) → Readable f → ¬ (Circle f.needs) → f.limit ≡ length f.jobs → length f.jobs ≤ most_boards f
    → (T : Table) × (plan_table f ≡ got T) × (fewest (length f.jobs) f.needs ≡ some T.slots)
unfolding tabled table_of
planner-fewest f ok free lim few =
    let n = length f.jobs in
    let w = fewest-there n f.needs (file-needs-in f ok) free in
    let wide = width-jobs n f.needs f.limit in
    let same = wide_enough f ok (most_boards f) (omega (arith, wide, few)) ∙ ap (best n (keptb f.needs)) lim in
    let narrow : file_width f ≤ max_width = omega (arith, wide, few, ok.boards-in.1) in
    (table_of f w.0, asked-13 f ok free narrow ∙ ap (tabled f) (same ∙ w.1), w.2)

-- so for each number of the list, and each such file whose needs are those that it stands for
pub every-planned : (n m : ℕ) → Memᴰ m (gates n)
    → (f : JobFile) → Readable f → length f.jobs ≡ n → SameNeeds (needs_of n m) f.needs → f.limit ≡ n → n ≤ most_boards f
    → (T : Table) × (plan_table f ≡ got T) × (fewest n (needs_of n m) ≡ some T.slots)
every-planned n m l f ok len s lim few =
    let w = planner-fewest f ok (circle-same (needs_of n m) f.needs s ((gates-are n m).0 l).1) (lim ∙ sym len) (omega (arith, len, few)) in
    (w.0, w.1, fewest-same n (needs_of n m) f.needs s ∙ ap (λ (k : ℕ). fewest k f.needs) (sym len) ∙ w.2)
