-- Within a slot: some of its jobs have their boards, and one more gets its own. Assumes nothing.
use Rattle.std.specs.Prelude.{◌≡◌, refl, ◌≢◌, ◌⊎◌, ◌↔◌, Bool, ◌&&◌, ℕ, ◌+◌, ◌≤◌, ◌<◌, length, set, replicate, T}
use Rattle.std.proofs.Common.{sym, ◌∙◌, inl, inr, get_or-set_same, get_or-set_other}
use Rattle.std.proofs.Math.Path.{ap}
use Rattle.std.proofs.Math.Logic.{⊎_elim}
use mathlib.Core.List.Memᴰ
use mathlib.Core.List.{List, Memᴰ}
use native.Mathlib.Omega.{arith}
use Rattle.std.proofs.Math.ListN.{length-set}
use Rattle.std.proofs.lemmas.List.{length-replicate}
use Rattle.rules.specs.Basics.{at, count}
use Rattle.rules.specs.Needs.{Need, Gives, NeedsIn}
use Rattle.rules.specs.Boards.{Placing, give, in_slot}
use Rattle.laws.specs.Tests.{tests}
use Rattle.laws.specs.Counting.{count-le, count-lt}
use Rattle.laws.specs.BoardWords.{Inherits, TakesFirst, LowestLeft, SameFirst, lowest-same}

module _ (n : ℕ) (needs : List Need) (t : List ℕ) (M : ℕ) where
  -- the slots before s have their boards, at most M of them
  pub record Given (s : ℕ) (b : List ℕ) : Type 0 where
    pub len : length b ≡ n
    pub low : (i : ℕ) → i < n → at t i < s → 1 ≤ at b i
    pub bound : (i : ℕ) → i < n → at t i < s → at b i ≤ M
    pub apart : (i j : ℕ) → i < n → j < n → at t i < s → at t i ≡ at t j → at b i ≡ at b j → i ≡ j
    pub inherits : (g k : ℕ) → Gives needs g k → at t k < s → at t g + 1 ≡ at t k → at b k ≡ at b g
    pub lowest : (i : ℕ) → i < n → at t i < s → ¬ Inherits needs t i → LowestLeft n needs t b i (at b i)

  -- at first no slot has
  pub none-given : Given 0 (replicate n 0)
  none-given = record {
    len = length-replicate n 0;
    low = λ i l h. absurd (omega arith);
    bound = λ i l h. absurd (omega arith);
    apart = λ i j l k h e v. absurd (omega arith);
    inherits = λ g k a h e. absurd (omega arith);
    lowest = λ i l h k. absurd (omega arith);
  }

  module _ (s : ℕ) (b₀ : List ℕ) where
    -- the jobs of slot s that D marks have their boards too; b₀ are the boards before the slot
    pub record Placed (D : ℕ → Bool) (z : Placing) : Type 0 where
      pub len : length z.1 ≡ n
      pub past : (i : ℕ) → i < n → at t i < s → at z.1 i ≡ at b₀ i
      pub used : (i : ℕ) → i < n → at t i ≡ s → T (D i) → Memᴰ (at z.1 i) z.0
      pub users : (c : ℕ) → Memᴰ c z.0 → (i : ℕ) × (i < n) × (at t i ≡ s) × T (D i) × (at z.1 i ≡ c)
      pub low : (i : ℕ) → i < n → at t i ≡ s → T (D i) → 1 ≤ at z.1 i
      pub bound : (i : ℕ) → i < n → at t i ≡ s → T (D i) → at z.1 i ≤ M
      pub apart : (i j : ℕ) → i < n → j < n → at t i ≡ s → at t j ≡ s → T (D i) → T (D j) → at z.1 i ≡ at z.1 j → i ≡ j
      pub inherits : (g i : ℕ) → Gives needs g i → at t i ≡ s → T (D i) → at t g + 1 ≡ s → at z.1 i ≡ at b₀ g
      pub lowest : (i : ℕ) → i < n → at t i ≡ s → T (D i) → ¬ Inherits needs t i → LowestLeft n needs t z.1 i (at z.1 i)
      pub size : length z.0 ≤ count (λ i. in_slot t s i && D i) n

    module _ (needs-in : NeedsIn n needs) where
      -- marks that agree in the slot say the same
      pub placed_same : (D E : ℕ → Bool) (z : Placing) → ((i : ℕ) → i < n → at t i ≡ s → T (D i) ↔ T (E i)) → Placed D z → Placed E z
      unfolding in_slot
      placed_same D E z h m = record {
        len = m.len;
        past = m.past;
        used = λ i l e d. m.used i l e ((h i l e).1 d);
        users = λ c k. let w = m.users c k in (w.0, w.1, w.2, (h w.0 w.1 w.2).0 w.3, w.4);
        low = λ i l e d. m.low i l e ((h i l e).1 d);
        bound = λ i l e d. m.bound i l e ((h i l e).1 d);
        apart = λ i j l k e f c d. m.apart i j l k e f ((h i l e).1 c) ((h j k f).1 d);
        inherits = λ g i a e d. m.inherits g i a e ((h i (needs-in g i a).1 e).1 d);
        lowest = λ i l e d. m.lowest i l e ((h i l e).1 d);
        size = omega (
          arith,
          m.size,
          count-le (λ i. in_slot t s i && D i) (λ i. in_slot t s i && E i) n (λ i l p. let w = simp tests at p in simp tests (w.0, (h i l w.0).0 w.1)),
        );
      }

      -- job x gets board c, so that E marks it and what D marks; it takes first before none of the others among these
      pub placed-more : (D E : ℕ → Bool) (z : Placing) (x c : ℕ) → x < n → at t x ≡ s → ¬ T (D x) → T (E x)
          → ((i : ℕ) → i < n → at t i ≡ s → T (D i) → T (E i)) → ((i : ℕ) → i < n → at t i ≡ s → T (E i) → (i ≡ x) ⊎ T (D i))
          → 1 ≤ c → c ≤ M → ((i : ℕ) → i < n → at t i ≡ s → T (D i) → at z.1 i ≢ c) → ((g : ℕ) → Gives needs g x → at t g + 1 ≡ s → c ≡ at b₀ g)
          → (¬ Inherits needs t x → LowestLeft n needs t z.1 x c)
          → ((i : ℕ) → i < n → at t i ≡ s → T (E i) → ¬ Inherits needs t i → ¬ TakesFirst needs t x i)
          → Placed D z → Placed E (give x c z)
      unfolding in_slot give
      placed-more D E z x c lx ex out inn up split c-low c-bound new c-inherits c-lowest last m = record {
        len = length-set z.1 x c ∙ m.len;
        past = λ i l h. rest i (λ e. omega (arith, ap (at t) e)) ∙ m.past i l h;
        used = λ i l e d. ⊎_elim (λ q. Memᴰ.head (here i q)) (λ q. Memᴰ.tail {xs = z.0} (rw (rest i (apart_from i q)) (m.used i l e q)))
            (split i l e d);
        users = λ v k. user v (Memᴰ.cases_cons k);
        low = λ i l e d. ⊎_elim (λ q. rw (here i q) c-low) (λ q. rw (rest i (apart_from i q)) (m.low i l e q)) (split i l e d);
        bound = λ i l e d. ⊎_elim (λ q. rw (here i q) c-bound) (λ q. rw (rest i (apart_from i q)) (m.bound i l e q)) (split i l e d);
        apart = λ i j l k e f p q h. both i j l k e f (split i l e p) (split j k f q) h;
        inherits = λ g i a e d h. ⊎_elim (λ q. here i q ∙ c-inherits g (rw q at a) h) (λ q. rest i (apart_from i q)
            ∙ m.inherits g i a e q h) (split i (needs-in g i a).1 e d);
        lowest = λ i l e d k. lowest-now i l e d k (split i l e d);
        size = omega (
          arith,
          m.size,
          count-lt (λ i. in_slot t s i && D i) (λ i. in_slot t s i && E i) n x (λ i l p. let w = simp tests at p in simp tests (w.0, up i l w.0 w.1)) lx
              (λ p. out (simp tests at p).1) (simp tests (ex, inn)),
        );
      }
        where
          here : (i : ℕ) → i ≡ x → at (set z.1 x c) i ≡ c
          here i e = rw e (get_or-set_same z.1 x c 0 (omega (arith, m.len)))

          rest : (i : ℕ) → i ≢ x → at (set z.1 x c) i ≡ at z.1 i
          rest i e = get_or-set_other z.1 x i c 0 e

          apart_from : (i : ℕ) → T (D i) → i ≢ x
          apart_from i d e = out (rw e at d)

          user : (v : ℕ) → (v ≡ c) ⊎ Memᴰ v z.0 → (i : ℕ) × (i < n) × (at t i ≡ s) × T (E i) × (at (set z.1 x c) i ≡ v)
          user v (inl e) = (x, lx, ex, inn, here x refl ∙ sym e)
          user v (inr k) = let w = m.users v k in (w.0, w.1, w.2, up w.0 w.1 w.2 w.3, rest w.0 (apart_from w.0 w.3) ∙ w.4)

          -- the board of x counts for none of those that have their boards
          as_before : (i : ℕ) → i < n → at t i ≡ s → T (E i) → ¬ Inherits needs t i → SameFirst n needs t z.1 (set z.1 x c) i
          as_before i l e d k = λ j _ _ f. sym (rest j (λ r. last i l e d k (rw r at f)))

          lowest-now : (i : ℕ) → i < n → at t i ≡ s → T (E i) → ¬ Inherits needs t i → (i ≡ x) ⊎ T (D i)
              → LowestLeft n needs t (set z.1 x c) i (at (set z.1 x c) i)
          lowest-now i l e d k (inl q) =
              rw (here i q) (lowest-same n needs t z.1 (set z.1 x c) i c (as_before i l e d k) (rw q (c-lowest (rw q at k))))
          lowest-now i l e d k (inr q) =
              rw (rest i (apart_from i q)) (lowest-same n needs t z.1 (set z.1 x c) i (at z.1 i) (as_before i l e d k) (m.lowest i l e q k))

          both : (i j : ℕ) → i < n → j < n → at t i ≡ s → at t j ≡ s → (i ≡ x) ⊎ T (D i) → (j ≡ x) ⊎ T (D j) → at (set z.1 x c) i ≡ at (set z.1 x c) j
              → i ≡ j
          both i j l k e f (inl p) (inl q) h = p ∙ sym q
          both i j l k e f (inl p) (inr q) h = absurd (new j k f q (sym (rest j (apart_from j q)) ∙ sym h ∙ here i p))
          both i j l k e f (inr p) (inl q) h = absurd (new i l e p (sym (rest i (apart_from i p)) ∙ h ∙ here j q))
          both i j l k e f (inr p) (inr q) h = m.apart i j l k e f p q (sym (rest i (apart_from i p)) ∙ h ∙ rest j (apart_from j q))
