-- The functions for questions 15 to 18 answer the rules' questions. Assumes nothing.
use Rattle.std.specs.Prelude.{◌≡◌, Bool, true, false, not, ◌&&◌, ◌||◌, ◌⊎◌, ℕ, suc, ◌+◌, ◌≤◌, ◌<◌, length, set, drop, replicate, T, leb, eqb, ℤ}
use Rattle.std.proofs.Math.Path.{refl, ap}
use Rattle.std.proofs.Common.{sym, ◌∙◌, inl, inr, ⊎_elim, arith, length-set, get_or-set_same, get_or-set_other}
use Rattle.std.proofs.Math.Bool.{or-false}
use mathlib.Core.List.{List, [], ◌∷◌, Memᴰ}
use Rattle.std.proofs.Math.Decide.{dec_lt, ℕ_discrete}
use borrow.Author.Tests.{eq-eqb, ne_eqb, le-leb, lt-leb}
use Rattle.std.proofs.lemmas.List.{length-replicate, get_or-replicate}
use Rattle.rules.specs.Sizes.{max_jobs, max_limit}
use Rattle.rules.specs.Basics.{at, all, any, range, largest}
use Rattle.rules.specs.Numbers.{word, signed, unsigned, InRange, eqℤ, centimetres}
use Rattle.rules.specs.JobFile.{job_of}
use Rattle.rules.specs.Needs.{Need, Gives, NeedsIn}
use Rattle.rules.specs.Program.{slots}
use Rattle.rules.specs.Table.{row_of, same_name, apartb, needs_kept}
use Rattle.laws.specs.Tests.{tests, bool-ext, T-eqb, T-or, T-any}
use Rattle.laws.specs.Counting.{range-below}
use Rattle.laws.specs.Numbers.{split-word, unsigned_signed, signed-unsigned, T-eqℤ}
use Rattle.laws.specs.Rounding.{centimetres-in}
use Rattle.jobset.specs.Sets.{member, set_at, with}
use Rattle.jobset.specs.Membership.{member-empty, member-with}
use Rattle.needrows.specs.Rows.{rows_size, takers_of, RowsAre}
use Rattle.needrows.specs.Takers.{takers-are}
use Rattle.levels.specs.Levels.{rounded}
use Rattle.questions.specs.Questions.{labelled_by, sized_in, cell_taken, shared, late_enough, row_kept, RowsIn, rows_kept}

-- ---- 15

-- a signed number is that of a two-byte number where its two bytes are the same
same_word : (z : ℤ) (w : ℕ) → InRange z → w < 65536 → eqb (unsigned z) w ≡ eqℤ z (signed w)
same_word z w h l =
    bool-ext (eqb (unsigned z) w) (eqℤ z (signed w))
    (λ t. (T-eqℤ z (signed w)).1 (sym (signed-unsigned z h).0 ∙ ap signed ((T-eqb (unsigned z) w).0 t)))
    (λ t. (T-eqb (unsigned z) w).1 (ap unsigned ((T-eqℤ z (signed w)).0 t) ∙ (unsigned_signed w l).0))

module _ (job row : List ℕ) where
  pub other_name : same_name (drop 2 job) (drop 4 row) ≡ false → false ≡ labelled_by job row
  unfolding labelled_by job_of row_of
  other_name e = rw e refl

  pub level_by : ((i : ℕ) → at job i < 256) → ((i : ℕ) → at row i < 256) → same_name (drop 2 job) (drop 4 row) ≡ true
      → (m v : ℕ) → m ≡ rounded (word (at job 0) (at job 1)) → v ≡ word (at row 2) (at row 3) → eqb m v ≡ labelled_by job row
  unfolding labelled_by job_of row_of rounded
  level_by f g e m v p q =
      let j : word (at job 0) (at job 1) < 65536 = (split-word (at job 0) (at job 1) (f 0) (f 1)).2 in
      let r : word (at row 2) (at row 3) < 65536 = (split-word (at row 2) (at row 3) (g 2) (g 3)).2 in
      rw (p, q, e) (same_word (centimetres (signed (word (at job 0) (at job 1)))) (word (at row 2) (at row 3))
      (centimetres-in (signed (word (at job 0) (at job 1))) (unsigned_signed (word (at job 0) (at job 1)) j).1) r)

-- ---- 16

module _ (L most s b : ℕ) (t bs : List ℕ) (m : ℕ) (m-is : m ≡ largest t) where
  pub wrong-slots : (s ≡ m + 1 → ⊥) → false ≡ sized_in L most s b t bs
  unfolding sized_in slots
  wrong-slots n = simp (ne_eqb s (suc (largest t)) (λ e. n (omega arith)))

  module _ (right : s ≡ m + 1) where
    pub past-limit : L < s → false ≡ sized_in L most s b t bs
    unfolding sized_in slots
    past-limit h = simp (eq-eqb s (suc (largest t)) (omega arith), lt-leb s L h)

    module _ (within : s ≤ L) where
      pub zero-board : all (leb 1) bs ≡ false → false ≡ sized_in L most s b t bs
      unfolding sized_in slots
      zero-board e = simp (eq-eqb s (suc (largest t)) (omega arith), le-leb s L within, e)

      module _ (low : all (leb 1) bs ≡ true) (k : ℕ) (k-is : k ≡ largest bs) where
        pub wrong-boards : (b ≡ k → ⊥) → false ≡ sized_in L most s b t bs
        unfolding sized_in slots
        wrong-boards n = simp (eq-eqb s (suc (largest t)) (omega arith), le-leb s L within, low, ne_eqb b (largest bs) (λ e. n (omega arith)))

        pub boards-by : b ≡ k → leb b most ≡ sized_in L most s b t bs
        unfolding sized_in slots
        boards-by e = simp (eq-eqb s (suc (largest t)) (omega arith), le-leb s L within, low, eq-eqb b (largest bs) (omega arith))

-- ---- 17

-- no row shares its start and board with an earlier one exactly where no two rows share them
pub apart-is : (n : ℕ) (t b : List ℕ) → all (λ i. not (shared t b i)) (range n 0) ≡ apartb n t b
unfolding apartb shared cell_taken
apart-is n t b =
    bool-ext (all (λ i. not (shared t b i)) (range n 0)) (apartb n t b)
    (λ h. let f = simp tests at h in simp tests (λ i m j w p q. pick f i j ((range-below n i).0 m) ((range-below n j).0 w) p q (dec_lt i j) (dec_lt j i)))
    (λ h. let f = simp tests at h in simp tests (λ i m w. let l = (range-below n i).0 m in let k = (range-below i w.0).0 w.1 in
    omega (arith, f i m w.0 ((range-below n w.0).1 (omega arith)) w.2.0 w.2.1)))
  where
    pick : ((i : ℕ) → Memᴰ i (range n 0) → ((j : ℕ) × Memᴰ j (range i 0) × ((at t i ≡ at t j) × (at b i ≡ at b j))) → ⊥)
        → (i j : ℕ) → i < n → j < n → at t i ≡ at t j → at b i ≡ at b j → Dec (i < j) → Dec (j < i) → i ≡ j
    pick f i j l m p q (yes h) d = absurd (f j ((range-below n j).1 m) (i, (range-below j i).1 h, (sym p, sym q)))
    pick f i j l m p q (no h) (yes k) = absurd (f i ((range-below n i).1 l) (j, (range-below i j).1 k, (p, q)))
    pick f i j l m p q (no h) (no k) = omega arith

-- of each slot the boards of the first i rows
pub record Taken (t b : List ℕ) (i : ℕ) (taken : List ℕ) : Type 0 where
  pub size : length taken ≡ max_limit
  pub cells : (s c : ℕ) → s < max_limit → c < 64 → member (set_at taken s) c ≡ cell_taken t b i s c

pub none-taken : (t b : List ℕ) → Taken t b 0 (replicate max_limit 0)
unfolding cell_taken any range
none-taken t b = record {
  size = length-replicate {A = ℕ} max_limit 0;
  cells = λ s c h l. rw (get_or-replicate {A = ℕ} max_limit s 0 0 h) (member-empty c);
}

-- one row more
one-taken : (t b : List ℕ) (i s c : ℕ) → cell_taken t b (i + 1) s c ≡ (cell_taken t b i s c || (eqb s (at t i) && eqb c (at b i)))
unfolding cell_taken
one-taken t b i s c =
    bool-ext (any p (range (i + 1) 0)) (any p (range i 0) || p i)
    (λ h. let w = (T-any p (range (i + 1) 0)).0 h in
    (T-or (any p (range i 0)) (p i)).1 (pick w.0 ((range-below (i + 1) w.0).0 w.1) w.2 (ℕ_discrete w.0 i)))
    (λ h. ⊎_elim (λ a. let w = (T-any p (range i 0)).0 a in
    (T-any p (range (i + 1) 0)).1 (w.0, (range-below (i + 1) w.0).1 (omega (arith, (range-below i w.0).0 w.1)), w.2))
    (λ a. (T-any p (range (i + 1) 0)).1 (i, (range-below (i + 1) i).1 (omega arith), a)) ((T-or (any p (range i 0)) (p i)).0 h))
  where
    p : ℕ → Bool
    p j = eqb s (at t j) && eqb c (at b j)

    pick : (j : ℕ) → j < i + 1 → T (p j) → Dec (j ≡ i) → T (any p (range i 0)) ⊎ T (p i)
    pick j l q (yes e) = inr (rw e at q)
    pick j l q (no n) = inl ((T-any p (range i 0)).1 (j, (range-below i j).1 (omega arith), q))

pub more-taken : (t b : List ℕ) (i : ℕ) (taken : List ℕ) → at t i < max_limit → at b i < 64 → Taken t b i taken
    → Taken t b (i + 1) (set taken (at t i) (with (set_at taken (at t i)) (at b i)).bits)
more-taken t b i taken h l k = record { size = length-set taken (at t i) _ ∙ k.size; cells = λ s c p q. go s c p q (ℕ_discrete s (at t i)) }
  where
    go : (s c : ℕ) → s < max_limit → c < 64 → Dec (s ≡ at t i)
        → member (set_at (set taken (at t i) (with (set_at taken (at t i)) (at b i)).bits) s) c ≡ cell_taken t b (i + 1) s c
    go s c p q (yes e) =
        rw (
          one-taken t b i s c,
          e,
          get_or-set_same taken (at t i) (with (set_at taken (at t i)) (at b i)).bits 0 (omega (arith, k.size)),
          eq-eqb (at t i) (at t i) refl,
        )
        (member-with (set_at taken (at t i)) (at b i) c ∙ rw (k.cells (at t i) c h q) refl)
    go s c p q (no n) =
        rw (one-taken t b i s c, get_or-set_other taken (at t i) s (with (set_at taken (at t i)) (at b i)).bits 0 n, ne_eqb s (at t i) n)
        (k.cells s c p q ∙ sym (or-false (cell_taken t b i s c)))

-- ---- 18

-- before the takers in `rest` are asked: they decide, and they are among n jobs
pub record KeptSoFar (t b : List ℕ) (g n : ℕ) (whole : Bool) (rest : List ℕ) : Type 0 where
  pub same : all (late_enough t b g) rest ≡ whole
  pub among : (k : ℕ) → Memᴰ k rest → k < n

module _ {t b : List ℕ} {g n : ℕ} {whole : Bool} where
  -- all are asked
  pub kept_end : {rest : List ℕ} → rest ≡ [] → KeptSoFar t b g n whole rest → true ≡ whole
  unfolding all
  kept_end e s = rw e at s.same

  module _ {rest next : List ℕ} {k : ℕ} (e : rest ≡ k ∷ next) (s : KeptSoFar t b g n whole rest) where
    pub taker-in : k < n
    taker-in = s.among k (rw e (Memᴰ.head refl))

    decides : (late_enough t b g k && all (late_enough t b g) next) ≡ whole
    unfolding all
    decides = rw e at s.same

    -- one is not late enough, and one is
    pub kept-no : late_enough t b g k ≡ false → false ≡ whole
    kept-no n = rw n at decides

    pub kept_yes : late_enough t b g k ≡ true → KeptSoFar t b g n whole next
    kept_yes y = record { same = rw y at decides; among = λ j m. s.among j (rw e (Memᴰ.tail m)) }

-- by the rows as by the needs
pub kept-is : (n : ℕ) (needs : List Need) (rows t b : List ℕ) → n ≤ max_jobs → NeedsIn n needs → RowsAre rows n needs → length t ≡ n
    → rows_kept rows t b ≡ needs_kept needs t b
unfolding rows_kept row_kept late_enough needs_kept
kept-is n needs rows t b few needs-in are len = bool-ext (rows_kept rows t b) (needs_kept needs t b)
    (λ h. let f = simp tests at h in simp tests (λ d m. let w = needs-in d.0 d.1 m in
    f d.0 ((range-below (length t) d.0).1 (omega (arith, w.0))) d.1 (rw len (there d.0 d.1 m))))
    (λ h. let f = simp tests at h in simp tests (λ g m k w. f (g, k) (needed g k (omega (arith, (range-below (length t) g).0 m)) (rw len at w))))
  where
    there : (g k : ℕ) → Gives needs g k → Memᴰ k (takers_of rows n g)
    there g k m = (takers-are rows n needs (omega arith) needs-in are g (needs-in g k m).0 k).1 m

    needed : (g k : ℕ) → g < n → Memᴰ k (takers_of rows n g) → Gives needs g k
    needed g k l m = (takers-are rows n needs (omega arith) needs-in are g l k).0 m

-- what the pass over the rows asks
pub rows_in : (n : ℕ) (needs : List Need) (rows : List ℕ) → n ≤ max_jobs → NeedsIn n needs → RowsAre rows n needs → rows_size ≤ length rows → RowsIn rows n
rows_in n needs rows few needs-in are room = record {
  few = few;
  room = omega arith;
  takers-in = λ g k l m. (needs-in g k ((takers-are rows n needs (omega arith) needs-in are g l k).0 m)).1;
}
