-- The ranks of the jobs whose windows hold a slot, and the number that they give. Assumes nothing.
use Rattle.std.specs.Prelude.{◌≡◌, Bool, length, T, ltb}
use Rattle.std.proofs.Math.Path.{refl, sym, ap}
use Rattle.std.proofs.Common.{◌∙◌, pow-suc, mul-add, mul_assoc, add-one, pow_mono}
use Rattle.std.proofs.Math.Bool.{true, false}
use mathlib.Core.List.{List, [], ◌∷◌, map}
use Prim.Native.Nat.{ℕ, suc, ◌+◌, ◌-◌, ◌*◌, ◌^◌, ◌≤◌, ◌<◌}
use native.Mathlib.Omega.{arith}
use Rattle.rules.specs.Sizes.{max_width}
use Rattle.rules.specs.Basics.{choose, at, filter, range}
use Rattle.rules.specs.States.{state_digit, base_three}
use Rattle.laws.specs.Tests.{T_true, T-ltb, choose_yes, choose_no}
use Rattle.laws.specs.Width.{window}
use Rattle.jobset.specs.declared.Set.{Set}
use Rattle.jobset.specs.Sets.{digit, member, empty, with}
use Rattle.jobset.specs.Bounds.{with-lt, member-lt}
use Rattle.jobset.specs.Tests.{absent, present}
use Rattle.threes.specs.Threes.{threes_to, threes, number_of}
use Rattle.threes.proofs.Threes.{threes-with}
use Rattle.slotstates.specs.declared.Ranks.{Ranks}

-- ---- what the functions give

-- before the first job
abbrev pub no_ranks : Ranks
no_ranks = record { count = 0; begun = empty; running = empty }

-- one window more: that of a job that begins later, or began earlier, or else is running now
unfoldable pub ranked_by : Bool → Bool → Ranks → Ranks
ranked_by later earlier z =
    choose later (record { count = z.count + 1; begun = z.begun; running = z.running })
    (choose earlier (record { count = z.count + 1; begun = with z.begun z.count; running = z.running })
    (record { count = z.count + 1; begun = with z.begun z.count; running = with z.running z.count }))

-- of a job that starts in slot t, with slot s now
unfoldable pub ranked : ℕ → ℕ → Ranks → Ranks
ranked s t z = ranked_by (ltb s t) (ltb t s) z

module _ (s t : ℕ) (z : Ranks) where
  -- the three ways
  pub ranked-later : s < t → record { count = z.count + 1; begun = z.begun; running = z.running } ≡ ranked s t z
  unfolding ranked ranked_by
  ranked-later h = sym (choose_yes _ _ _ ((T-ltb s t).1 h))

  module _ (begun : t ≤ s) (S : Set) (S-is : S ≡ with z.begun z.count) where
    not-later : T (ltb s t) → ⊥
    not-later h = let l = (T-ltb s t).0 h in omega arith

    pub ranked-earlier : t < s → record { count = z.count + 1; begun = S; running = z.running } ≡ ranked s t z
    unfolding ranked ranked_by
    ranked-earlier h = rw S-is (sym (choose_no _ _ _ not-later ∙ choose_yes _ _ _ ((T-ltb t s).1 h)))

    pub ranked-now : s ≤ t → (R : Set) → R ≡ with z.running z.count → record { count = z.count + 1; begun = S; running = R } ≡ ranked s t z
    unfolding ranked ranked_by
    ranked-now h R R-is = rw (S-is, R-is) (sym (choose_no _ _ _ not-later ∙ choose_no _ _ _ (λ k. let l = (T-ltb t s).0 k in omega arith)))

-- those of more jobs, one after the other, each with its start
unfoldable pub ranked_all : (ℕ → ℕ) → ℕ → List ℕ → Ranks → Ranks
ranked_all start s [] z = z
ranked_all start s (i ∷ is) z = ranked_all start s is (ranked s (start i) z)

-- starts, releases and tails of the jobs, how many there are, and the limit
pub record Times : Type 0 where
  pub starts : List ℕ
  pub releases : List ℕ
  pub tails : List ℕ
  pub jobs : ℕ
  pub limit : ℕ

abbrev pub times : List ℕ → List ℕ → List ℕ → ℕ → ℕ → Times
times starts releases tails n L = record { starts = starts; releases = releases; tails = tails; jobs = n; limit = L }

-- of the last so many jobs, those whose windows hold slot s
unfoldable pub holding : Times → ℕ → ℕ → List ℕ
holding z s left = filter (window (at z.releases) (at z.tails) z.limit s) (range left (z.jobs - left))

-- the ranks of slot s
unfoldable pub ranks_in : Times → ℕ → Ranks
ranks_in z s = ranked_all (at z.starts) s (holding z s z.jobs) no_ranks

-- no more windows hold slot s than a byte has bits
unfoldable pub Narrow : Times → ℕ → Type 0
Narrow z s = length (holding z s z.jobs) ≤ max_width

-- ---- the number

-- the ranks that were given are below the count, so the next is new
pub record Counted (z : Ranks) : Type 0 where
  pub begun-lt : z.begun.bits < 2 ^ z.count
  pub running-lt : z.running.bits < 2 ^ z.count

-- the sets are bytes
abbrev pub RanksFit : Ranks → Type 0
RanksFit z = (z.begun.bits < 256) × (z.running.bits < 256)

pub counted-fit : (z : Ranks) → Counted z → z.count ≤ max_width → RanksFit z
counted-fit z c h = let p = pow_mono {i = z.count} {j = 8} h in omega (arith, c.begun-lt, c.running-lt)

-- one job more is counted
pub ranked-count : (s t : ℕ) (z : Ranks) → (ranked s t z).count ≡ z.count + 1
unfolding ranked
ranked-count s t z = go (ltb s t) (ltb t s)
  where
    go : (x y : Bool) → (ranked_by x y z).count ≡ z.count + 1
    go true y = unfold ranked_by choose in refl
    go false true = unfold ranked_by choose in refl
    go false false = unfold ranked_by choose in refl

-- and adds its digit at its rank
number-ranked : (s t : ℕ) (z : Ranks) → Counted z → z.count < max_width
    → Counted (ranked s t z)
    × (number_of (ranked s t z).begun (ranked s t z).running ≡ number_of z.begun z.running + 3 ^ z.count * state_digit s t)
unfolding number_of threes ranked state_digit
number-ranked s t z c h = go (ltb s t) (ltb t s)
  where
    up : (S : Set) → S.bits < 2 ^ z.count → S.bits < 2 ^ (z.count + 1)
    up S l = omega (arith, l, pow_mono {i = z.count} {j = z.count + 1} (omega arith))

    with-up : (S : Set) → S.bits < 2 ^ z.count → (with S z.count).bits < 2 ^ (z.count + 1)
    with-up S l = with-lt (z.count + 1) S z.count (up S l) (omega arith)

    more : (S : Set) → S.bits < 2 ^ z.count → threes_to 8 (with S z.count) ≡ threes_to 8 S + 3 ^ z.count
    more S l = threes-with S z.count 8 h (absent (member S z.count) (λ m. let p = member-lt z.count S l z.count m in omega arith))

    go : (x y : Bool) → Counted (ranked_by x y z)
        × (threes_to 8 (ranked_by x y z).begun + threes_to 8 (ranked_by x y z).running
        ≡ threes_to 8 z.begun + threes_to 8 z.running + 3 ^ z.count * choose x 0 (choose y 1 2))
    go true y = unfold ranked_by choose in (record { begun-lt = up _ c.begun-lt; running-lt = up _ c.running-lt }, omega arith)
    go false true = unfold ranked_by choose in
        (record { begun-lt = with-up _ c.begun-lt; running-lt = up _ c.running-lt }, omega (arith, more _ c.begun-lt))
    go false false = unfold ranked_by choose in (
      record { begun-lt = with-up _ c.begun-lt; running-lt = with-up _ c.running-lt },
      omega (arith, more _ c.begun-lt, more _ c.running-lt),
    )

-- jobs that follow add theirs at the ranks from the count up
pub number-all : (start : ℕ → ℕ) (s : ℕ) (is : List ℕ) (z : Ranks) → Counted z → z.count + length is ≤ max_width
    → Counted (ranked_all start s is z) × ((ranked_all start s is z).count ≡ z.count + length is)
    × (number_of (ranked_all start s is z).begun (ranked_all start s is z).running
    ≡ number_of z.begun z.running + 3 ^ z.count * base_three (map (λ i. state_digit s (start i)) is))
unfolding ranked_all base_three
number-all start s [] z c h = (c, omega arith, omega arith)
number-all start s (i ∷ is) z c h =
    let w = number-ranked s (start i) z c (omega arith) in
    let e = ranked-count s (start i) z in
    let r = number-all start s is (ranked s (start i) z) w.0 (omega (arith, e)) in
    (r.0, omega (arith, e, r.1), r.2 ∙ sum e w.1)
  where
    d : ℕ
    d = state_digit s (start i)

    rest : ℕ
    rest = base_three (map (λ j. state_digit s (start j)) is)

    sum : (ranked s (start i) z).count ≡ z.count + 1
        → number_of (ranked s (start i) z).begun (ranked s (start i) z).running ≡ number_of z.begun z.running + 3 ^ z.count * d
        → number_of (ranked s (start i) z).begun (ranked s (start i) z).running + 3 ^ (ranked s (start i) z).count * rest
        ≡ number_of z.begun z.running + 3 ^ z.count * (d + 3 * rest)
    sum e q = rw (e, q, add-one z.count, pow-suc 3 z.count) (omega (arith, mul-add (3 ^ z.count) d (3 * rest), mul_assoc (3 ^ z.count) 3 rest))

pub none-counted : Counted no_ranks
none-counted = record { begun-lt = omega arith; running-lt = omega arith }

pub none_number : number_of empty empty ≡ 0
unfolding number_of threes threes_to member digit choose
none_number = refl

-- the number of a slot has the digits of its jobs
pub slot-number : (z : Times) (s : ℕ) → Narrow z s
    → number_of (ranks_in z s).begun (ranks_in z s).running ≡ base_three (map (λ i. state_digit s (at z.starts i)) (holding z s z.jobs))
unfolding ranks_in Narrow
slot-number z s h = let w = number-all (at z.starts) s (holding z s z.jobs) no_ranks none-counted (omega (arith, h)) in
    omega (arith, w.2, none_number)

-- and the ranks are in two bytes
pub ranks-fit : (z : Times) (s : ℕ) → Narrow z s → RanksFit (ranks_in z s)
unfolding ranks_in Narrow
ranks-fit z s h =
    let w = number-all (at z.starts) s (holding z s z.jobs) no_ranks none-counted (omega (arith, h)) in
    counted-fit _ w.0 (omega (arith, h, w.1))

-- ---- job by job

-- so many jobs are left to be asked, and with those of them that hold the slot the ranks are those of the slot
pub record RankedSoFar (z : Times) (s left : ℕ) (r : Ranks) : Type 0 where
  pub short : left ≤ z.jobs
  pub room : r.count + length (holding z s left) ≤ max_width
  pub same : ranked_all (at z.starts) s (holding z s left) r ≡ ranks_in z s

module _ (z : Times) (s : ℕ) where
  pub ranked-start : Narrow z s → RankedSoFar z s z.jobs no_ranks
  unfolding Narrow ranks_in
  ranked-start h = record { short = omega arith; room = omega (arith, h); same = refl }

  module _ {left : ℕ} {r : Ranks} (p : RankedSoFar z s left r) where
    module _ (h : 0 < left) (b : Bool) (test : b ≡ window (at z.releases) (at z.tails) z.limit s (z.jobs - left)) where
      -- the first of them, and those that hold the slot behind it
      abbrev job : ℕ
      job = z.jobs - left

      abbrev later : List ℕ
      later = holding z s (left - 1)

      next : holding z s left ≡ choose b (job ∷ later) later
      unfolding holding filter range
      next =
          let e : left ≡ suc (left - 1) = omega arith in
          let q : suc (z.jobs - left) ≡ z.jobs - (left - 1) = omega (arith, p.short) in
          ap (λ (k : ℕ). filter (window (at z.releases) (at z.tails) z.limit s) (range k (z.jobs - left))) e ∙ rw (test, q) refl

      -- its window holds the slot
      pub ranked-yes : b ≡ true
          → (r.count < max_width) × ((r' : Ranks) → r' ≡ ranked s (at z.starts (z.jobs - left)) r → RankedSoFar z s (left - 1) r')
      ranked-yes e = (omega (arith, p.room, ap length more), turn)
        where
          more : holding z s left ≡ job ∷ later
          more = next ∙ choose_yes _ _ _ ((T_true b).1 e)

          turn : (r' : Ranks) → r' ≡ ranked s (at z.starts job) r → RankedSoFar z s (left - 1) r'
          turn r' q = rw q record {
            short = omega (arith, p.short);
            room = omega (arith, p.room, ap length more, ranked-count s (at z.starts job) r);
            same = unfold ranked_all in (sym (ap (λ (l : List ℕ). ranked_all (at z.starts) s l r) more) ∙ p.same);
          }

      -- it does not
      pub ranked-no : b ≡ false → RankedSoFar z s (left - 1) r
      ranked-no e =
          let less : holding z s left ≡ later = next ∙ choose_no _ _ _ (λ t. present b ((T_true b).0 t) e) in
          record {
            short = omega (arith, p.short);
            room = omega (arith, p.room, ap length less);
            same = sym (ap (λ (l : List ℕ). ranked_all (at z.starts) s l r) less) ∙ p.same;
          }

    -- none is left
    pub ranked-end : left ≤ 0 → r ≡ ranks_in z s
    unfolding holding filter range ranked_all
    ranked-end h = let e : left ≡ 0 = omega arith in rw e at p.same
