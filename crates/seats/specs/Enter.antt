-- The jobs of a slot enter, one after the other: the tables, the places and the givers' places so far, and what one job more changes.
-- Assumes nothing.
use Rattle.std.specs.Prelude.{◌≡◌, refl, ◌↔◌, T, ltb, eqb, length, set}
use Rattle.std.proofs.Common.{sym, ap₂, ◌∙◌, arith, get_or-set_same}
use Rattle.std.proofs.Math.Path.{ap}
use Rattle.std.proofs.Math.Logic.{⊎_elim}
use mathlib.Core.List.Memᴰ
use mathlib.Core.List.{List, [], ◌∷◌, ◌++◌, append_assoc, Memᴰ}
use Prim.Native.Nat.{ℕ, suc, ◌+◌, ◌-◌, ◌*◌, ◌%◌, ◌≤◌, ◌<◌}
use Rattle.std.proofs.Math.Decide.{dec_lt}
use Rattle.std.proofs.Math.ListN.{length-set}
use Rattle.rules.specs.Sizes.{max_jobs, max_limit, max_width}
use Rattle.rules.specs.Basics.{at, range}
use Rattle.rules.specs.Needs.{Gives, givesb}
use Rattle.laws.specs.Tests.{T-ltb, by-test}
use Rattle.laws.specs.Lists.{Rising, range-rising, filter-rising, filter_same}
use Rattle.laws.specs.Counting.{passing, range-below}
use Rattle.laws.specs.Program.{gives-is}
use Rattle.jobset.specs.Sets.{set_at, with}
use Rattle.layout.specs.Layout.{held_at, place_sets}
use Rattle.needrows.specs.Rows.{takers_of, RowsAre, row_bytes}
use Rattle.needrows.specs.Takers.{takers-are, takers-distinct}
use Rattle.places.specs.Seats.{seats_of}
use Rattle.places.specs.Windows.{Windows, holds_slot, Leads}
use Rattle.places.specs.Assign.{Lowest, lowest-only, taken, entering}
use Rattle.seats.specs.Gather.{seats-with, seats-skip, seats-ext}
use Rattle.seats.specs.Order.{order_of, place_of, entrants, in-entrants, in-entering, slots_of, Rest, rest_of, place-lowest, HasPlaces}
use Rattle.seats.specs.Bytes.{same_set}
use Rattle.seats.specs.Words.{at_set, seated, Seated, seated-is}
use Rattle.seats.specs.Rows.{Rows, T-holds, gives_to, T-gives, rows-skip, rows-enter}
use Rattle.seats.specs.Give.{give_each, length-give, give-other, give-late, give-one}
use Rattle.seats.specs.Links.{Linked, released}

-- ---- what the code is given

-- windows, as arrays: the needs in rows, releases, tails; the deadline is the limit less the tail
pub record Given (W : Windows) (rows release tail : List ℕ) (jobs limit : ℕ) : Type 0 where
  pub leads : Leads W
  pub count : W.n ≡ jobs
  pub jobs-fit : jobs ≤ max_jobs
  pub limit-fits : limit ≤ max_limit
  pub rows_fit : row_bytes * jobs ≤ length rows
  pub rows_are : RowsAre rows jobs W.needs
  pub releases : (i : ℕ) → i < jobs → at release i ≡ W.r i
  pub deadlines : (i : ℕ) → i < jobs → W.d i ≡ limit - at tail i

-- ---- the jobs xs have entered the first s slots

pub record Entered (W : Windows) (s : ℕ) (xs words places givers : List ℕ) : Type 0 where
  pub rows : Rows W s xs words
  pub places-len : length places ≡ max_jobs
  pub places-are : (i : ℕ) → Memᴰ i xs → W.r i < W.d i → at places i ≡ place_of W i
  pub givers-len : length givers ≡ max_jobs
  pub givers-are : (k : ℕ) → k < W.n → set_at givers k ≡ seats_of (place_of W) (gives_to W k (W.r k)) xs

-- where the walk along the links is at `number`: falls with each step, 0 at the end
abbrev pub left_behind : ℕ → ℕ
left_behind number = (max_jobs + 1 - number) % (max_jobs + 1)

-- in the middle of a slot: those of its jobs that are left are linked from `number` on
pub record Midway (W : Windows) (next : List ℕ) (slot number : ℕ) (words places givers : List ℕ) : Type 0 where
  pub done : List ℕ
  pub left : List ℕ
  pub whole : entrants W slot ≡ done ++ left
  pub chain : Linked next number left
  pub state : Entered W (suc slot) (entering W slot ++ done) words places givers

-- before one of them
pub record NextJob (W : Windows) (next : List ℕ) (slot job : ℕ) (words places givers : List ℕ) : Type 0 where
  pub done : List ℕ
  pub later : List ℕ
  pub whole : entrants W slot ≡ done ++ job ∷ later
  pub chain : Linked next (at next job) later
  pub state : Entered W (suc slot) (entering W slot ++ done) words places givers

pub next_job : {W : Windows} {next : List ℕ} {slot number : ℕ} {words places givers : List ℕ} → Midway W next slot number words places givers → ¬ (number ≡ 0)
    → NextJob W next slot (number - 1) words places givers
next_job {W} {next} {slot} {number} {words} {places} {givers} M n = go M.left M.whole M.chain
  where
    go : (left : List ℕ) → entrants W slot ≡ M.done ++ left → Linked next number left → NextJob W next slot (number - 1) words places givers
    go [] e c = absurd (n c)
    go (i ∷ is) e c = let z : number - 1 ≡ i = omega (arith, c.0) in rw z (record { done = M.done; later = is; whole = e; chain = c.1; state = M.state })

-- the jobs of a slot, as they are linked
pub linked-entrants : {W : Windows} {rows release tail : List ℕ} {jobs limit : ℕ} (next : List ℕ) (slot first : ℕ) → Given W rows release tail jobs limit
    → Linked next first
    (released release slot jobs 0) → Linked next first (entrants W slot)
linked-entrants {W} {rows} {release} {tail} {jobs} {limit} next slot first G L = rw (same) at L
  where
    same : released release slot jobs 0 ≡ entrants W slot
    same = filter_same (λ j. eqb (at release j) slot) (λ j. eqb (W.r j) slot) (range jobs 0)
        (λ i m. ap (λ (x : ℕ). eqb x slot) (G.releases i ((range-below jobs i).0 m)))
        ∙ ap (passing (λ i. eqb (W.r i) slot)) (sym G.count)

module _ {W : Windows} {next : List ℕ} {slot job : ℕ} {words places givers : List ℕ} (C : NextJob W next slot job words places givers) where
  is-entrant : (job < W.n) × (W.r job ≡ slot)
  is-entrant = (in-entrants W slot job).0 (rw C.whole (Memᴰ.append_right C.done (Memᴰ.head refl)))

  pub next-job-in : job < W.n
  next-job-in = is-entrant.0

  pub next-job-release : W.r job ≡ slot
  next-job-release = is-entrant.1

  -- the numbers rise along the links: the measure of the walk falls
  pub next-job-less : W.n ≤ max_jobs → left_behind (at next job) < left_behind (job + 1)
  next-job-less h = go C.later C.chain (λ i m. (
    after C.done (rw C.whole at (filter-rising (λ i. eqb (W.r i) slot) (range W.n 0) (range-rising W.n 0))) i m,
    ((in-entrants W slot i).0 (rw C.whole (Memᴰ.append_right C.done (Memᴰ.tail m)))).0,
  ))
    where
      after : (xs : List ℕ) → Rising (xs ++ job ∷ C.later) → (i : ℕ) → Memᴰ i C.later → job < i
      after [] r = r.0
      after (x ∷ xs) r = after xs r.1

      go : (is : List ℕ) → Linked next (at next job) is → ((i : ℕ) → Memᴰ i is → (job < i) × (i < W.n)) → left_behind (at next job) < left_behind (job + 1)
      go [] c f = omega (arith, next-job-in, c)
      go (i ∷ is) c f = omega (arith, f i (Memᴰ.head refl), c.0)

  -- all before it enter no later
  before : (j : ℕ) → Memᴰ j (entering W slot ++ C.done) → (j < W.n) × (W.r j ≤ slot)
  before j m = ⊎_elim (λ a. let w = (in-entering W slot j).0 a in (w.0, omega (arith, w.1)))
      (λ a. let w = (in-entrants W slot j).0 (rw C.whole (Memᴰ.append_left (job ∷ C.later) a)) in (w.0, omega (arith, w.1)))
      (Memᴰ.append_cases (entering W slot) m)

  -- its place is the lowest that the slot leaves
  pub next-job-lowest : slot < slots_of W → Lowest (set_at words (held_at + slot)) (place_of W job)
  unfolding taken entering
  next-job-lowest h = rw (C.state.rows.held-is slot (omega arith) ∙ same) (rw next-job-release at (place-lowest W xs (C.later ++ R.jobs) job whole))
    where
      xs : List ℕ
      xs = entering W slot ++ C.done

      R : Rest W (suc slot)
      R = rest_of W (suc slot) h

      whole : order_of W ≡ (entering W slot ++ C.done) ++ job ∷ (C.later ++ R.jobs)
      whole = R.whole ∙ ap (λ (l : List ℕ). entering W slot ++ l ++ R.jobs) C.whole
          ∙ append_assoc (entering W slot) (C.done ++ job ∷ C.later) R.jobs ∙ ap (λ (l : List ℕ). entering W slot ++ l)
          (append_assoc C.done (job ∷ C.later) R.jobs)
          ∙ sym (append_assoc (entering W slot) C.done (job ∷ (C.later ++ R.jobs)))

      same : seats_of (place_of W) (holds_slot W slot) xs ≡ seats_of (place_of W) (λ j. ltb slot (W.d j)) xs
      same = seats-ext (place_of W) (holds_slot W slot) (λ j. ltb slot (W.d j)) xs xs
          (λ i m t. (m, (T-ltb slot (W.d i)).1 ((T-holds W slot i).0 t).1)) (λ i m t. (m, (T-holds W slot i).1 ((before i m).1, (T-ltb slot (W.d i)).0 t)))

  -- no place is left for it: places run out
  pub next-job-full : slot < slots_of W → slot < W.d job → Lowest (set_at words (held_at + slot)) max_width → ¬ (HasPlaces W)
  next-job-full h o l f = omega (
    arith,
    lowest-only (set_at words (held_at + slot)) (place_of W job) max_width (next-job-lowest h) l,
    f job next-job-in
        (omega (arith, next-job-release)),
  )

  -- behind it, with it among those that have entered
  passed : (words' places' givers' : List ℕ) → Entered W (suc slot) ((entering W slot ++ C.done) ++ job ∷ []) words' places' givers' → Midway W next slot
      (at next job) words' places' givers'
  passed words' places' givers' E = record {
    done = C.done ++ job ∷ [];
    left = C.later;
    whole = C.whole ∙ sym (append_assoc C.done (job ∷ []) C.later);
    chain = C.chain;
    state = rw (append_assoc (entering W slot) C.done (job ∷ [])) at E;
  }

  module _ (D : Leads W) where
    abbrev xs : List ℕ
    xs = entering W slot ++ C.done

    -- its window is empty: nothing changes
    pub next-job-skip : W.d job ≤ slot → Midway W next slot (at next job) words places givers
    next-job-skip h = passed words places givers record {
      rows = rows-skip W D (suc slot) xs words job no_slot C.state.rows;
      places-len = C.state.places-len;
      places-are = λ i m o. ⊎_elim (λ a. C.state.places-are i a o) (λ a. absurd (omega (arith, no_slot, ap W.r (sole i a), ap W.d (sole i a))))
          (Memᴰ.append_cases xs m);
      givers-len = C.state.givers-len;
      givers-are = λ k l. C.state.givers-are k l ∙ sym
          (seats-skip (place_of W) (gives_to W k (W.r k)) xs job
          (λ t. let w = (T-gives W k (W.r k) job).0 t in omega (arith, w.1, D.sooner job k w.0, no_slot)));
    }
      where
        no_slot : W.d job ≤ W.r job
        no_slot = omega (arith, next-job-release)

        sole : (i : ℕ) → Memᴰ i (job ∷ []) → i ≡ job
        sole i a = Memᴰ.eq_of_singleton a

    -- it takes its place
    module _ {rows release tail : List ℕ} {jobs limit : ℕ} (G : Given W rows release tail jobs limit) (p last byte : ℕ)
        (enters : slot < slots_of W) (below : slot < limit) (place : p ≡ place_of W job) (low : p < max_width) (dead : last ≡ W.d job) (o : slot < W.d job)
        (is_byte_lem : at givers job ≡ byte) (small : byte < place_sets) where
      more : List ℕ
      more = give_each release p last (takers_of rows jobs job) givers

      job-in : job < jobs
      job-in = omega (arith, next-job-in, G.count)

      needs-in : (g k : ℕ) → Gives W.needs g k → (g < jobs) × (k < jobs)
      needs-in g k a = let w = G.leads.needs-in g k a in omega (arith, w, G.count)

      -- each taker that enters in time has the place among those of its givers
      given : (k : ℕ) → k < W.n → set_at more k ≡ seats_of (place_of W) (gives_to W k (W.r k)) (xs ++ job ∷ [])
      unfolding more
      given k l = go (by-test (givesb W.needs job k) (gives-is W.needs job k)) (dec_lt last (W.r k))
        where
          k-in : k < jobs
          k-in = omega (arith, l, G.count)

          takers : (z : ℕ) → Memᴰ z (takers_of rows jobs job) ↔ Gives W.needs job z
          takers = takers-are rows jobs W.needs (omega (arith, G.jobs-fit)) needs-in G.rows_are job job-in

          skipped : at more k ≡ at givers k → (T (gives_to W k (W.r k) job) → ⊥) → set_at more k ≡ seats_of (place_of W) (gives_to W k (W.r k)) (xs ++ job ∷ [])
          skipped e n = same_set e ∙ C.state.givers-are k l ∙ sym (seats-skip (place_of W) (gives_to W k (W.r k)) xs job n)

          go : Dec (Gives W.needs job k) → Dec (last < W.r k) → set_at more k ≡ seats_of (place_of W) (gives_to W k (W.r k)) (xs ++ job ∷ [])
          go (no n) q = skipped (give-other release p last (takers_of rows jobs job) givers k (λ z m e. n ((takers k).0 (rw e m))))
              (λ t. n ((T-gives W k (W.r k) job).0 t).0)
          go (yes a) (yes q) = skipped (give-late release p last (takers_of rows jobs job) givers k (omega (arith, G.releases k k-in)))
              (λ t. omega (arith, dead, ((T-gives W k (W.r k) job).0 t).1))
          go (yes a) (no q) = give-one release p last (takers_of rows jobs job) givers k (takers-distinct rows job jobs) ((takers k).1 a)
              (omega (arith, C.state.givers-len, k-in, G.jobs-fit)) (omega (arith, G.releases k k-in))
              ∙ ap₂ with (C.state.givers-are k l) place ∙ sym
              (seats-with (place_of W) (gives_to W k (W.r k)) xs job ((T-gives W k (W.r k) job).1 (a, omega (arith, dead))))

      pub next-job-seat : Midway W next slot (at next job) (seated words slot job p last byte) (set places job p)
          (give_each release p last (takers_of rows jobs job) givers)
      unfolding more
      next-job-seat = passed (seated words slot job p last byte) (set places job p) more record {
        rows = rows-enter W D slot xs words (seated words slot job p last byte) job byte (omega (arith, G.limit-fits)) next-job-release o deadline
            (omega (arith, place, low))
            ((next-job-lowest enters).is_free (omega (arith, place, low)))
            (same_set (sym is_byte_lem) ∙ rw next-job-release at (C.state.givers-are job next-job-in)) placed C.state.rows;
        places-len = length-set places job p ∙ C.state.places-len;
        places-are = λ i m q. ⊎_elim (λ a. at_set (λ x. x ≡ place_of W i) places job p i (λ e. place ∙ ap (place_of W) (sym e)) (C.state.places-are i a q))
            (λ a. let e : i ≡ job = Memᴰ.eq_of_singleton a in rw e
            (get_or-set_same places job p 0 (omega (arith, C.state.places-len, job-in, G.jobs-fit)) ∙ place)) (Memᴰ.append_cases xs m);
        givers-len = length-give release p last (takers_of rows jobs job) givers ∙ C.state.givers-len;
        givers-are = given;
      }
        where
          deadline : W.d job ≤ max_limit
          deadline = omega (arith, G.deadlines job job-in, G.limit-fits)

          placed : Seated W.n words slot job (place_of W job) (W.d job) byte (seated words slot job p last byte)
          placed = rw (← place, ← dead) (seated-is W.n words slot job p last byte C.state.rows.small (omega (arith, G.limit-fits))
              (omega (arith, dead, deadline)) low next-job-in small)
