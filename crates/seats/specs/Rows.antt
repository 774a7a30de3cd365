-- The rows of the tables, and the two moves that make them: one job more enters the last row, and one row more is carried on. Each set of the
-- tables has the places of those jobs that have entered and pass a test, by the places that all jobs get in the end. Assumes nothing.
use Rattle.std.specs.Prelude.{◌≡◌, refl, Bool, false, ◌&&◌, ◌↔◌, T, leb, ltb, eqb}
use Rattle.std.proofs.Math.Path.{sym}
use Rattle.std.proofs.Common.{ap, ap₂, ◌∙◌, ⊎_elim, arith}
use mathlib.Core.List.Memᴰ
use mathlib.Core.List.{List, [], ◌∷◌, ◌++◌, append-nil, append_assoc, Memᴰ}
use Prim.Native.Nat.{ℕ, zero, suc, ◌+◌, ◌-◌, ◌*◌, ◌/◌, ◌≤◌, ◌<◌}
use Rattle.std.proofs.Math.Decide.{ℕ_discrete}
use Rattle.rules.specs.Sizes.{max_width, max_limit}
use Rattle.rules.specs.Basics.{at}
use Rattle.rules.specs.Needs.{Gives, givesb}
use Rattle.laws.specs.Tests.{T_and, T-leb, T-ltb, T-eqb}
use Rattle.laws.specs.Program.{gives-is}
use Rattle.jobset.specs.declared.Set.{Set}
use Rattle.jobset.specs.Sets.{set_at, empty, member, with, minus}
use Rattle.jobset.specs.Tests.{present}
use Rattle.layout.specs.Layout.{held_at, ends_at, due_at, marks_at, prev_at, who_at, slots_at, tables_in, longest_row}
use Rattle.threes.specs.Threes.{threes, number_of}
use Rattle.threes.proofs.Threes.{number_lt}
use Rattle.places.specs.Seats.{seats_of, in-seats}
use Rattle.places.specs.Windows.{Windows, holds_slot, in_held, Leads}
use Rattle.places.specs.Tables.{Tables}
use Rattle.places.specs.Memo.{before, row_start}
use Rattle.seats.specs.Gather.{seats-with, seats-skip, seats-minus}
use Rattle.seats.specs.Order.{place_of, place-apart}
use Rattle.seats.specs.Bytes.{same_set}
use Rattle.seats.specs.Words.{Small, Seated}
use Rattle.seats.specs.Carry.{carried_held, next_mark, Carried}

-- ---- the tests

-- the window of a job holds slot t
abbrev pub Holds : Windows → ℕ → ℕ → Type 0
Holds W t i = (W.r i ≤ t) × (t < W.d i)

pub T-holds : (W : Windows) (t i : ℕ) → T (holds_slot W t i) ↔ Holds W t i
unfolding holds_slot
T-holds W t i = let a = T_and (leb (W.r i) t) (ltb t (W.d i)) in
    (λ h. ((T-leb (W.r i) t).0 (a.0 h).0, (T-ltb t (W.d i)).0 (a.0 h).1), λ h. a.1 ((T-leb (W.r i) t).1 h.0, (T-ltb t (W.d i)).1 h.1))

-- the window of a job holds slots, and t is its deadline
unfoldable pub ends_with : Windows → ℕ → ℕ → Bool
ends_with W t i = eqb (W.d i) t && ltb (W.r i) (W.d i)

pub T-ends : (W : Windows) (t i : ℕ) → T (ends_with W t i) ↔ ((W.d i ≡ t) × (W.r i < W.d i))
unfolding ends_with
T-ends W t i = let a = T_and (eqb (W.d i) t) (ltb (W.r i) (W.d i)) in
    (λ h. ((T-eqb (W.d i) t).0 (a.0 h).0, (T-ltb (W.r i) (W.d i)).0 (a.0 h).1), λ h. a.1 ((T-eqb (W.d i) t).1 h.0, (T-ltb (W.r i) (W.d i)).1 h.1))

-- job g gives to job k, and its deadline is t or later
unfoldable pub gives_to : Windows → ℕ → ℕ → ℕ → Bool
gives_to W k t g = givesb W.needs g k && leb t (W.d g)

pub T-gives : (W : Windows) (k t g : ℕ) → T (gives_to W k t g) ↔ (Gives W.needs g k × (t ≤ W.d g))
unfolding gives_to
T-gives W k t g = let a = T_and (givesb W.needs g k) (leb t (W.d g)) in
    (λ h. ((gives-is W.needs g k).0 (a.0 h).0, (T-leb t (W.d g)).0 (a.0 h).1), λ h. a.1 ((gives-is W.needs g k).1 h.0, (T-leb t (W.d g)).1 h.1))

-- ---- rows

-- the first s rows, the jobs xs having entered: the places of those whose windows hold the slot, of those whose windows end there, and of the
-- givers of each job whose windows reach so far
pub record Rows (W : Windows) (s : ℕ) (xs words : List ℕ) : Type 0 where
  pub small : Small W.n words
  pub low : (i : ℕ) → Memᴰ i xs → W.r i < W.d i → place_of W i < max_width
  pub held-is : (t : ℕ) → t < s → set_at words (held_at + t) ≡ seats_of (place_of W) (holds_slot W t) xs
  pub ends_is : (t : ℕ) → t < max_limit + 1 → set_at words (ends_at + t) ≡ seats_of (place_of W) (ends_with W t) xs
  pub prev-is : (t i : ℕ) → t < s → Memᴰ i xs → Holds W t i → set_at words (prev_at + max_width * t + place_of W i) ≡ seats_of (place_of W) (gives_to W i t) xs
  pub who-is : (t i : ℕ) → t < s → Memᴰ i xs → Holds W t i → at words (who_at + max_width * t + place_of W i) ≡ i
  pub marks : (t : ℕ) → t ≤ s → at words (marks_at + t) ≡ row_start (tables_in words) t

-- ---- where the rows of marks begin

-- a row begins where the held sets before it say
pub bytes_same : (A B : Tables) (t : ℕ) → ((u : ℕ) → suc u < t → A.held u ≡ B.held u) → row_start A t ≡ row_start B t
unfolding row_start
bytes_same A B zero h = refl
bytes_same A B (suc zero) h = refl
bytes_same A B (suc (suc t)) h = ap₂ (λ (x : ℕ) (S : Set). x + threes S / 4 + 1) (bytes_same A B (suc t) (λ u l. h u (omega arith))) (h t (omega arith))

pub threes-few : (S : Set) → threes S ≤ 3280
unfolding number_of
threes-few S = omega (arith, number_lt S S)

-- no row is longer than the longest
pub bytes-few : (A : Tables) (t : ℕ) → row_start A t ≤ longest_row * t
unfolding row_start
bytes-few A zero = omega arith
bytes-few A (suc zero) = omega (arith, threes-few empty)
bytes-few A (suc (suc t)) = omega (arith, bytes-few A (suc t), threes-few (A.held t))

-- a member of xs with one more at the end
last_or : {P : Type 0} (xs : List ℕ) (i j : ℕ) → Memᴰ j (xs ++ i ∷ []) → (Memᴰ j xs → P) → (j ≡ i → P) → P
last_or xs i j m f g = ⊎_elim f (λ k. ⊎_elim g (λ z. absurd (Memᴰ.not-nil z)) (Memᴰ.cases_cons k)) (Memᴰ.append_cases xs m)

module _ (W : Windows) (D : Leads W) where
  -- ---- a job without a window enters: nothing changes

  -- it is in no set
  module _ (i : ℕ) (no_slot : W.d i ≤ W.r i) where
    not-held : (t : ℕ) → T (holds_slot W t i) → ⊥
    not-held t h = omega (arith, (T-holds W t i).0 h)

    not-ending : (t : ℕ) → T (ends_with W t i) → ⊥
    not-ending t h = omega (arith, (T-ends W t i).0 h)

    not-giver : (k t : ℕ) → W.r k ≤ t → T (gives_to W k t i) → ⊥
    not-giver k t l h = let w = (T-gives W k t i).0 h in omega (arith, w.1, D.sooner i k w.0)

  pub rows-skip : (s : ℕ) (xs words : List ℕ) (i : ℕ) → W.d i ≤ W.r i → Rows W s xs words → Rows W s (xs ++ i ∷ []) words
  rows-skip s xs words i no_slot R = record {
    small = R.small;
    low = λ j m o. last_or xs i j m (λ k. R.low j k o) (λ e. absurd (let z : W.r i < W.d i = rw e at o in omega arith));
    held-is = λ t h. R.held-is t h ∙ sym (seats-skip (place_of W) (holds_slot W t) xs i (not-held i no_slot t));
    ends_is = λ t h. R.ends_is t h ∙ sym (seats-skip (place_of W) (ends_with W t) xs i (not-ending i no_slot t));
    prev-is = λ t j h m o. last_or xs i j m
        (λ k. R.prev-is t j h k o ∙ sym (seats-skip (place_of W) (gives_to W j t) xs i (not-giver i no_slot j t o.0))) (λ e. absurd (closed j e t o));
    who-is = λ t j h m o. last_or xs i j m (λ k. R.who-is t j h k o) (λ e. absurd (closed j e t o));
    marks = R.marks;
  }
    where
      closed : (j : ℕ) → j ≡ i → (t : ℕ) → Holds W t j → ⊥
      closed j e t o = not-held i no_slot t ((T-holds W t i).1 (rw e at o))

  -- several
  pub rows-skips : (s : ℕ) (xs words ys : List ℕ) → ((i : ℕ) → Memᴰ i ys → W.d i ≤ W.r i) → Rows W s xs words → Rows W s (xs ++ ys) words
  rows-skips s xs words [] f R = rw (append-nil xs) R
  rows-skips s xs words (y ∷ ys) f R = rw (append_assoc xs (y ∷ []) ys) at
      (rows-skips s (xs ++ y ∷ []) words ys (λ i m. f i (Memᴰ.tail m)) (rows-skip s xs words y (f y (Memᴰ.head refl)) R))

  -- ---- a job with a window enters the last row, at a place that is free there

  pub rows-enter : (slot : ℕ) (xs words after : List ℕ) (i givers : ℕ) → slot < max_limit → W.r i ≡ slot → slot < W.d i → W.d i ≤ max_limit
      → place_of W i < max_width
      → member (set_at words (held_at + slot)) (place_of W i) ≡ false → ◌≡◌ {A = Set} (record { bits = givers }) (seats_of (place_of W) (gives_to W i slot) xs)
      → Seated W.n words slot i (place_of W i) (W.d i) givers after → Rows W (suc slot) xs words → Rows W (suc slot) (xs ++ i ∷ []) after
  unfolding tables_in
  rows-enter slot xs words after i givers below e o d l free g S R = record {
    small = S.small;
    low = λ j m q. last_or xs i j m (λ k. R.low j k q) (λ z. rw z l);
    held-is = λ t h. held t h (ℕ_discrete t slot);
    ends_is = λ t h. ends t h (ℕ_discrete t (W.d i));
    prev-is = λ t j h m q. last_or xs i j m
        (λ k. same_set (S.other (prev_at + max_width * t + π j) (λ z. omega arith) (λ z. omega arith) (λ z. away t j h k q (omega arith))
        (λ z. omega (arith, R.low j k (omega (arith, q)))))
        ∙ R.prev-is t j h k q ∙ sym (seats-skip π (gives_to W j t) xs i (λ y. let w = (T-gives W j t i).0 y in omega (arith, D.sooner i j w.0, q.0))))
        (λ z. let f : t ≡ slot = omega (arith, rw z at q.0) in
        rw (z, f) (same_set S.prev ∙ g ∙ sym (seats-skip π (gives_to W i slot) xs i (λ y. omega (arith, D.sooner i i ((T-gives W i slot i).0 y).0)))));
    who-is = λ t j h m q. last_or xs i j m
        (λ k. S.other (who_at + max_width * t + π j) (λ z. omega arith) (λ z. omega arith) (λ z. omega arith) (λ z. away t j h k q (omega arith))
        ∙ R.who-is t j h k q)
        (λ z. let f : t ≡ slot = omega (arith, rw z at q.0) in rw (z, f) S.who);
    marks = λ t h. S.other (marks_at + t) (λ z. omega arith) (λ z. omega arith) (λ z. omega arith) (λ z. omega arith)
        ∙ R.marks t h ∙ bytes_same (tables_in words) (tables_in after) t
        (λ u k. same_set (sym (S.other (held_at + u) (λ z. omega arith) (λ z. omega arith) (λ z. omega arith) (λ z. omega arith))));
  }
    where
      π : ℕ → ℕ
      π = place_of W

      -- a job that the slot holds has another place
      away : (t j : ℕ) → t < suc slot → Memᴰ j xs → Holds W t j → max_width * t + π j ≡ max_width * slot + π i → ⊥
      away t j h m q z =
          let low = R.low j m (omega (arith, q)) in
          let a : t ≡ slot = omega arith in
          let b : π j ≡ π i = omega arith in
          present (member (set_at words (held_at + slot)) (π i))
          (rw (R.held-is slot (omega arith)) ((in-seats π (holds_slot W slot) xs (π i)).1 (j, m, b, (T-holds W slot j).1 (rw a at q)))) free

      held : (t : ℕ) → t < suc slot → Dec (t ≡ slot) → set_at after (held_at + t) ≡ seats_of π (holds_slot W t) (xs ++ i ∷ [])
      held t h (yes z) = rw z (S.held ∙ ap (λ (X : Set). with X (π i)) (R.held-is slot (omega arith)) ∙ sym
          (seats-with π (holds_slot W slot) xs i ((T-holds W slot i).1 (omega arith, o))))
      held t h (no z) = same_set (S.other (held_at + t) (λ f. z (omega arith)) (λ f. omega arith) (λ f. omega arith) (λ f. omega arith)) ∙ R.held-is t h
          ∙ sym (seats-skip π (holds_slot W t) xs i (λ y. omega (arith, (T-holds W t i).0 y)))

      ends : (t : ℕ) → t < max_limit + 1 → Dec (t ≡ W.d i) → set_at after (ends_at + t) ≡ seats_of π (ends_with W t) (xs ++ i ∷ [])
      ends t h (yes z) = rw z (S.ends ∙ ap (λ (X : Set). with X (π i)) (R.ends_is (W.d i) (omega arith)) ∙ sym
          (seats-with π (ends_with W (W.d i)) xs i ((T-ends W (W.d i) i).1 (refl, omega arith))))
      ends t h (no z) = same_set (S.other (ends_at + t) (λ f. omega arith) (λ f. z (omega arith)) (λ f. omega arith) (λ f. omega arith)) ∙ R.ends_is t h
          ∙ sym (seats-skip π (ends_with W t) xs i (λ y. z (sym ((T-ends W t i).0 y).0)))

  -- ---- one row more, where each job that has entered with a window did so before it

  pub rows-carry : (b s : ℕ) (xs words after : List ℕ) → s ≡ suc b → s < max_limit → ((j : ℕ) → Memᴰ j xs → j < W.n) →
      ((j : ℕ) → Memᴰ j xs → W.r j < W.d j → W.r j < s)
      → Carried W.n words b s after → Rows W s xs words → Rows W (suc s) xs after
  unfolding tables_in carried_held next_mark row_start
  rows-carry b s xs words after next below in-n entered C R = record {
    small = C.small;
    low = R.low;
    held-is = λ t h. held t h (ℕ_discrete t s);
    ends_is = λ t h. same_set (C.other (ends_at + t) (λ z. omega arith) (λ z. omega arith) (λ p k z. omega arith) (λ p k z. omega arith)) ∙ R.ends_is t h;
    prev-is = λ t i h m q. prev t i h m q (ℕ_discrete t s);
    who-is = λ t i h m q. who t i h m q (ℕ_discrete t s);
    marks = λ t h. mark t h (ℕ_discrete t (suc s));
  }
    where
      π : ℕ → ℕ
      π = place_of W

      -- two jobs of one slot
      apart : (t i j : ℕ) → Memᴰ i xs → Memᴰ j xs → Holds W t i → Holds W t j → π i ≡ π j → i ≡ j
      apart t i j a c u v = place-apart W t i j ((in_held W t i).1 (in-n i a, u.0, u.1)) ((in_held W t j).1 (in-n j c, v.0, v.1))
          (R.low i a (omega (arith, u)))

      here : carried_held words b s ≡ seats_of π (holds_slot W s) xs
      here = ap₂ minus (R.held-is b (omega arith)) (R.ends_is s (omega arith)) ∙ seats-minus π (holds_slot W b) (ends_with W s) (holds_slot W s) xs
          (λ i m h n. let w = (T-holds W b i).0 h in (T-holds W s i).1 (omega (arith, w.0), stays i w n (ℕ_discrete (W.d i) s)))
          (λ i m h. let w = (T-holds W s i).0 h in (T-holds W b i).1 (omega (arith, entered i m (omega (arith, w))), omega (arith, w.1)))
          (λ i j m k h n e. let w = (T-holds W s i).0 h in let v = (T-ends W s j).0 n in
          let same : i ≡ j = apart b i j m k (omega (arith, entered i m (omega (arith, w))), omega (arith, w.1))
          (omega (arith, v.0, v.1), omega (arith, v.0)) e in
          omega (arith, w.1, v.0, ap W.d same))
        where
          stays : (i : ℕ) → Holds W b i → (T (ends_with W s i) → ⊥) → Dec (W.d i ≡ s) → s < W.d i
          stays i w n (yes z) = absurd (n ((T-ends W s i).1 (z, omega (arith, w.0))))
          stays i w n (no z) = omega (arith, w.1)

      was : (i : ℕ) → Memᴰ i xs → Holds W s i → Holds W b i
      was i m q = (omega (arith, entered i m (omega (arith, q))), omega (arith, q.1))

      low : (i : ℕ) → Memᴰ i xs → Holds W s i → π i < max_width
      low i m q = R.low i m (omega (arith, q))

      givers : (i : ℕ) → Memᴰ i xs → Holds W s i → minus (seats_of π (gives_to W i b) xs) (seats_of π (ends_with W b) xs) ≡ seats_of π (gives_to W i s) xs
      givers i m q = seats-minus π (gives_to W i b) (ends_with W b) (gives_to W i s) xs
          (λ g k h n. let w = (T-gives W i b g).0 h in (T-gives W i s g).1 (w.0, stays g w.0 w.1 n (ℕ_discrete (W.d g) b)))
          (λ g k h. let w = (T-gives W i s g).0 h in (T-gives W i b g).1 (w.0, omega (arith, w.1)))
          (λ g j k n h e z. let w = (T-gives W i s g).0 h in let v = (T-ends W b j).0 e in
          let same : g ≡ j = apart (b - 1) g j k n (omega (arith, D.sooner g i w.0, was i m q), omega (arith, w.1))
          (omega (arith, v.0, v.1), omega (arith, v.0, v.1)) z in
          omega (arith, w.1, v.0, ap W.d same))
        where
          stays : (g : ℕ) → Gives W.needs g i → b ≤ W.d g → (T (ends_with W b g) → ⊥) → Dec (W.d g ≡ b) → s ≤ W.d g
          stays g a l n (yes z) = absurd (n ((T-ends W b g).1 (z, omega (arith, D.sooner g i a, was i m q))))
          stays g a l n (no z) = omega arith

      held : (t : ℕ) → t < suc s → Dec (t ≡ s) → set_at after (held_at + t) ≡ seats_of π (holds_slot W t) xs
      held t h (yes z) = rw z (C.held ∙ here)
      held t h (no z) = same_set (C.other (held_at + t) (λ f. z (omega arith)) (λ f. omega arith) (λ p k f. omega arith) (λ p k f. omega arith)) ∙ R.held-is t
          (omega arith)

      prev : (t i : ℕ) → t < suc s → Memᴰ i xs → Holds W t i → Dec (t ≡ s) → set_at after (prev_at + max_width * t + π i) ≡ seats_of π (gives_to W i t) xs
      prev t i h m q (yes z) = let q' : Holds W s i = rw z at q in
          rw z (C.prev (π i) (low i m q') ∙ ap₂ minus (R.prev-is b i (omega arith) m (was i m q')) (R.ends_is b (omega arith)) ∙ givers i m q')
      prev t i h m q (no z) = let l = R.low i m (omega (arith, q)) in
          same_set (C.other (prev_at + max_width * t + π i) (λ f. omega arith) (λ f. omega arith) (λ p k f. omega arith) (λ p k f. omega arith)) ∙ R.prev-is t i
          (omega arith) m q

      who : (t i : ℕ) → t < suc s → Memᴰ i xs → Holds W t i → Dec (t ≡ s) → at after (who_at + max_width * t + π i) ≡ i
      who t i h m q (yes z) = let q' : Holds W s i = rw z at q in rw z (C.who (π i) (low i m q') ∙ R.who-is b i (omega arith) m (was i m q'))
      who t i h m q (no z) = let l = R.low i m (omega (arith, q)) in
          C.other (who_at + max_width * t + π i) (λ f. omega arith) (λ f. omega arith) (λ p k f. omega arith) (λ p k f. omega arith)
          ∙ R.who-is t i (omega arith) m q

      same_bytes : (t : ℕ) → t ≤ suc s → row_start (tables_in words) t ≡ row_start (tables_in after) t
      same_bytes t h = bytes_same (tables_in words) (tables_in after) t
          (λ u k. same_set (sym (C.other (held_at + u) (λ f. omega arith) (λ f. omega arith) (λ p l f. omega arith) (λ p l f. omega arith))))

      last : row_start (tables_in words) (suc s) ≡ next_mark words b s
      last = let e : threes (before (tables_in words) s) / 4 ≡ threes (set_at words (held_at + b)) / 4 = ap
          (λ (x : ℕ). threes (before (tables_in words) x) / 4) next in omega (arith, R.marks s (omega arith))

      mark : (t : ℕ) → t ≤ suc s → Dec (t ≡ suc s) → at after (marks_at + t) ≡ row_start (tables_in after) t
      mark t h (yes z) = let f : marks_at + t ≡ marks_at + s + 1 = omega arith in ap (at after) f ∙ C.mark ∙ sym last ∙ ap (row_start (tables_in words)) (sym z)
          ∙ same_bytes t h
      mark t h (no z) = C.other (marks_at + t) (λ f. omega arith) (λ f. z (omega arith)) (λ p k f. omega arith) (λ p k f. omega arith) ∙ R.marks t
          (omega arith) ∙ same_bytes t h

-- ---- words that differ only in the due sets, and behind the tables

pub rows-kept : (W : Windows) (s : ℕ) (xs words after : List ℕ) → s ≤ max_limit → Small W.n after →
    ((k : ℕ) → (due_at ≤ k → k < marks_at → ⊥) → k < slots_at → at after k ≡ at words k)
    → Rows W s xs words → Rows W s xs after
unfolding tables_in
rows-kept W s xs words after h small same R = record {
  small = small;
  low = R.low;
  held-is = λ t l. same_set (same (held_at + t) (λ a b. omega arith) (omega arith)) ∙ R.held-is t l;
  ends_is = λ t l. same_set (same (ends_at + t) (λ a b. omega arith) (omega arith)) ∙ R.ends_is t l;
  prev-is = λ t i l m q. let p = R.low i m (omega (arith, q)) in same_set (same (prev_at + max_width * t + place_of W i) (λ a b. omega arith) (omega arith))
      ∙ R.prev-is t i l m q;
  who-is = λ t i l m q. let p = R.low i m (omega (arith, q)) in same (who_at + max_width * t + place_of W i) (λ a b. omega arith) (omega arith)
      ∙ R.who-is t i l m q;
  marks = λ t l. same (marks_at + t) (λ a b. omega arith) (omega arith) ∙ R.marks t l
      ∙ bytes_same (tables_in words) (tables_in after) t (λ u k. same_set (sym (same (held_at + u) (λ a b. omega arith) (omega arith))));
}
