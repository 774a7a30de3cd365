-- The jobs enter slot by slot: what `enter` and `seat_all` ask and give. Assumes nothing.
use Rattle.std.specs.Prelude.{◌≡◌, refl, Option, MatchOption, ℕ, zero, suc, ◌+◌, ◌≤◌, ◌<◌, min, length, set, replicate}
use Rattle.std.proofs.Common.{◌∙◌, arith, length-set, get_or-set_same, get_or-set_other}
use mathlib.Core.List.Memᴰ
use mathlib.Core.List.{List, [], ◌∷◌, ◌++◌, append-nil, Memᴰ}
use Rattle.std.proofs.Math.Decide.{dec_lt}
use Rattle.rules.specs.Sizes.{max_jobs, max_limit}
use Rattle.rules.specs.Basics.{at, most, choose}
use Rattle.laws.specs.Counting.{most-ge, most-le}
use Rattle.laws.specs.Lists.{zeros-at}
use Rattle.jobset.specs.Sets.{digit, member}
use Rattle.layout.specs.Layout.{held_at, ends_at, marks_at, three_at, table_words, tables_in, place_sets}
use Rattle.threes.specs.Threes.{threes, threes_to, entry}
use Rattle.places.specs.Seats.{seats_of}
use Rattle.places.specs.Windows.{Windows, Leads}
use Rattle.places.specs.Memo.{row_start}
use Rattle.places.specs.Assign.{entering}
use Rattle.seats.specs.Order.{place_of, entrants, in-entering, slots_of, Rest, rest_of, HasPlaces}
use Rattle.seats.specs.Bytes.{same_set}
use Rattle.seats.specs.Words.{Small, length-row, row_other, row_at, with_threes}
use Rattle.seats.specs.Carry.{carried, carried-is}
use Rattle.seats.specs.Rows.{rows-skips, rows-carry}
use Rattle.seats.specs.Links.{Linked}
use Rattle.seats.specs.Enter.{Given, Entered, Midway}
use Rattle.seats.specs.Filled.{Filled, filled-places}

-- ---- one slot

-- what `enter` asks: the jobs of the slot are linked from `first` on, and all before them have entered
pub record Enters (W : Windows) (rows release tail next : List ℕ) (jobs limit first slot : ℕ) (words places givers : List ℕ) : Type 0 where
  pub given : Given W rows release tail jobs limit
  pub below : slot < limit
  pub enters : slot < slots_of W
  pub chain : Linked next first (entrants W slot)
  pub state : Entered W (suc slot) (entering W slot) words places givers

-- what it gives: the jobs of the slot have entered too; none where places run out
abbrev pub EntersAll : {A : Type 0} → Windows → ℕ → Option A → List ℕ → List ℕ → List ℕ → Type 0
EntersAll W slot r words places givers = MatchOption r (¬ (HasPlaces W)) (λ _. Entered W (suc slot) (entering W (suc slot)) words places givers)

pub mid_start : {W : Windows} {rows release tail next : List ℕ} {jobs limit first slot : ℕ} {words places givers : List ℕ}
    → Enters W rows release tail next jobs limit first slot words places givers
    → Midway W next slot first words places givers
mid_start {W} {slot = slot} E = record {
  done = [];
  left = entrants W slot;
  whole = refl;
  chain = E.chain;
  state = rw (append-nil (entering W slot))
      E.state;
}

pub mid-end : {W : Windows} {next : List ℕ} {slot number : ℕ} {words places givers : List ℕ} → number ≡ 0 → Midway W next slot number words places givers
    → Entered W (suc slot) (entering W (suc slot)) words places givers
unfolding entering
mid-end {W} {next} {slot} {number} {words} {places} {givers} z M = go M.left M.whole M.chain
  where
    go : (left : List ℕ) → entrants W slot ≡ M.done ++ left → Linked next number left → Entered W (suc slot)
        (entering W slot ++ entrants W slot) words places givers
    go [] e c = rw (e ∙ append-nil M.done) M.state
    go (i ∷ is) e c = absurd (omega (arith, c.0))

-- ---- the first slot

-- the tables before any job has entered
abbrev pub no_tables : List ℕ
no_tables = with_threes (set (replicate table_words 0) (marks_at + 1) 1)

-- no job, in the first slot
pub none-entered : (W : Windows) → 0 < W.n → Entered W 1 (entering W 0) no_tables (replicate max_jobs 0) (replicate max_jobs 0)
unfolding entering seats_of tables_in row_start threes threes_to member digit choose
none-entered W pos = record {
  rows = record {
    small = small;
    low = λ i m. absurd (Memᴰ.not-nil m);
    held-is = λ t h. same_set (past (held_at + t) (omega arith) (λ e. omega arith));
    ends_is = λ t h. same_set (past (ends_at + t) (omega arith) (λ e. omega arith));
    prev-is = λ t i h m. absurd (Memᴰ.not-nil m);
    who-is = λ t i h m. absurd (Memᴰ.not-nil m);
    marks = mark;
  };
  places-len = refl;
  places-are = λ i m. absurd (Memᴰ.not-nil m);
  givers-len = refl;
  givers-are = λ k l. same_set (zeros-at max_jobs k);
}
  where
    zeros : List ℕ
    zeros = replicate table_words 0

    one : List ℕ
    one = set zeros (marks_at + 1) 1

    len : length one ≡ table_words
    len = length-set zeros (marks_at + 1) 1

    old : (k : ℕ) → k < three_at → at no_tables k ≡ at one k
    old k l = unfold with_threes in row_other three_at entry one place_sets k (λ p h e. omega arith)

    past : (k : ℕ) → k < three_at → ¬ (k ≡ marks_at + 1) → at no_tables k ≡ 0
    past k l n = old k l ∙ get_or-set_other zeros (marks_at + 1) k 1 0 n ∙ zeros-at table_words k

    small : Small W.n no_tables
    small = record {
      len = unfold with_threes in length-row three_at entry one place_sets ∙ len;
      sets = λ k h. rw (past k (omega arith) (λ e. omega arith)) (omega arith);
      prevs = λ k h l. rw (past k (omega arith) (λ e. omega arith)) (omega arith);
      jobs = λ k h l. rw (past k (omega arith) (λ e. omega arith)) pos;
      threes = λ b h. unfold with_threes in row_at three_at entry one place_sets b h (omega (arith, len));
    }

    mark : (t : ℕ) → t ≤ 1 → at no_tables (marks_at + t) ≡ row_start (tables_in no_tables) t
    mark zero h = past (marks_at + 0) (omega arith) (λ e. omega arith)
    mark (suc zero) h = old (marks_at + 1) (omega arith) ∙ get_or-set_same zeros (marks_at + 1) 1 0 (omega arith)
    mark (suc (suc t)) h = absurd (omega arith)

-- ---- the next slot

pub enter-carry : {W : Windows} {s : ℕ} {words places givers : List ℕ} → Leads W → (b : ℕ) → s ≡ suc b → s < max_limit
    → Entered W s (entering W s) words places givers
    → Entered W (suc s) (entering W s) (carried words b s) places givers
enter-carry {W} {s} {words} D b next below E = record {
  rows = rows-carry W D b s (entering W s) words (carried words b s) next below (λ j m. ((in-entering W s j).0 m).0) (λ j m o. ((in-entering W s j).0 m).1)
      (carried-is W.n words b s next below E.rows.small) E.rows;
  places-len = E.places-len;
  places-are = E.places-are;
  givers-len = E.givers-len;
  givers-are = E.givers-are;
}

-- ---- the slots in which a job enters

-- one more than each release, at most the limit: so many slots
pub record Slots (W : Windows) (limit slots : ℕ) : Type 0 where
  pub few : slots ≤ limit
  pub within : slots ≤ slots_of W
  pub some : 1 ≤ slots
  pub all : (i : ℕ) → i < W.n → W.r i < W.d i → W.r i < slots

pub slots-are : {W : Windows} {rows release tail : List ℕ} {jobs limit : ℕ} → Given W rows release tail jobs limit → 1 ≤ jobs → 1 ≤ limit → Slots W limit
    (most (λ i. min (at release i + 1) limit) jobs)
slots-are {W} {release = release} {jobs = jobs} {limit = limit} G n_pos l-pos = record {
  few = most-le f jobs limit (λ i l. omega arith);
  within = most-le f jobs (slots_of W) (λ i l. omega (arith, G.releases i l, most-ge (λ i. suc (W.r i)) W.n i (omega (arith, G.count))));
  some = omega (arith, most-ge f jobs 0 (omega arith));
  all = λ i l o. let h : i < jobs = omega (arith, G.count) in omega (arith, most-ge f jobs i h, G.releases i h, G.deadlines i h);
}
  where
    f : ℕ → ℕ
    f i = min (at release i + 1) limit

-- ---- all slots

-- every job with a window has its place, in tables of r slots
pub record SeatedIn (W : Windows) (limit r : ℕ) (words places : List ℕ) : Type 0 where
  pub few : r ≤ limit
  pub within : r ≤ slots_of W
  pub some : 1 ≤ r
  pub enough : HasPlaces W
  pub filled : Filled W r words
  pub places-len : length places ≡ max_jobs
  pub places-are : (i : ℕ) → i < W.n → W.r i < W.d i → at places i ≡ place_of W i

-- what `seat_all` gives: the number of slots of the tables; none where places run out
abbrev pub SeatedAll : Windows → ℕ → Option ℕ → List ℕ → List ℕ → Type 0
SeatedAll W limit r words places = MatchOption r (¬ (HasPlaces W)) (λ slots. SeatedIn W limit slots words places)

pub seated-all : {W : Windows} {limit r : ℕ} {words places givers : List ℕ} → Leads W → Slots W limit r → Entered W r (entering W r) words places givers
    → SeatedIn W limit r words places
seated-all {W} {r = r} {words = words} D S E = record {
  few = S.few;
  within = S.within;
  some = S.some;
  enough = filled-places full;
  filled = full;
  places-len = E.places-len;
  places-are = λ i l o. E.places-are i ((in-entering W r i).1 (l, S.all i l o)) o;
}
  where
    R : Rest W r
    R = rest_of W r S.within

    full : Filled W r words
    full = record { rows = rw R.whole (rows-skips W D r (entering W r) words R.jobs no_slot E.rows); entered = S.all }
      where
        no_slot : (i : ℕ) → Memᴰ i R.jobs → W.d i ≤ W.r i
        no_slot i m = go (dec_lt (W.r i) (W.d i))
          where
            go : Dec (W.r i < W.d i) → W.d i ≤ W.r i
            go (yes o) = absurd (omega (arith, R.from i m, S.all i (R.from i m).0 o))
            go (no o) = omega arith
