-- The order of preference: it is strict and total, the test says it, and a result can be best in a family of start lists. Assumes nothing.
use Rattle.std.specs.Prelude.{◌≡◌, refl, ◌≢◌, ◌⊎◌, ◌↔◌, List, ℕ, zero, suc, ◌<◌, length, T}
use Rattle.std.proofs.Common.{sym, ◌∙◌, inl, inr, arith, ext_get_or}
use Rattle.std.proofs.Math.Option.{Option, none, some}
use Rattle.std.proofs.Math.Decide.{dec_lt, ℕ_discrete}
use Rattle.rules.specs.Basics.{at, largest}
use Rattle.rules.specs.Program.{Fits}
use Rattle.rules.specs.Preference.{Preferred, slot_rows, preferredb}
use Rattle.laws.specs.Counting.{at-largest}
use Rattle.laws.specs.Lexicographic.{lex-refl, lex-total, rows_before}

-- ---- a strict order

-- slot s, job i comes before slot r, job j
abbrev Sooner : ℕ → ℕ → ℕ → ℕ → Type 0
Sooner s i r j = (s < r) ⊎ ((s ≡ r) × (i < j))

-- how two places stand
data Compared (s i r j : ℕ) : Type 0 where
  sooner : Sooner s i r j → Compared s i r j
  later : Sooner r j s i → Compared s i r j
  same : s ≡ r → i ≡ j → Compared s i r j

compare : (s i r j : ℕ) → Compared s i r j
compare s i r j = go (dec_lt s r) (dec_lt r s) (dec_lt i j) (dec_lt j i)
  where
    go : Dec (s < r) → Dec (r < s) → Dec (i < j) → Dec (j < i) → Compared s i r j
    go (yes h) b c d = sooner (inl h)
    go (no h) (yes k) c d = later (inl k)
    go (no h) (no k) (yes l) d = sooner (inr (omega arith, l))
    go (no h) (no k) (no l) (yes m) = later (inr (omega arith, m))
    go (no h) (no k) (no l) (no m) = same (omega arith) (omega arith)

sooner-trans : (s i r j q k : ℕ) → Sooner s i r j → Sooner r j q k → Sooner s i q k
sooner-trans s i r j q k (inl a) (inl b) = inl (omega arith)
sooner-trans s i r j q k (inl a) (inr b) = inl (omega arith)
sooner-trans s i r j q k (inr a) (inl b) = inl (omega arith)
sooner-trans s i r j q k (inr a) (inr b) = inr (omega arith, omega arith)

module _ (n : ℕ) where
  -- a and b agree before the place that decides
  agree-sooner : (a b : List ℕ) (p : Preferred n a b) (s i : ℕ) → i < n → Sooner s i p.slot p.job → (at a i ≡ s) ↔ (at b i ≡ s)
  agree-sooner a b p s i l (inl h) = p.before s i h l
  agree-sooner a b p s i l (inr h) = rw h.0 (p.lower i h.1)

  -- of two lists at most one is preferred to the other
  pub preferred-asym : (a b : List ℕ) → Preferred n a b → Preferred n b a → ⊥
  preferred-asym a b p q = go (compare p.slot p.job q.slot q.job)
    where
      go : Compared p.slot p.job q.slot q.job → ⊥
      go (sooner h) = p.lacks ((agree-sooner b a q p.slot p.job p.job-in h).1 p.has)
      go (later h) = q.lacks ((agree-sooner a b p q.slot q.job q.job-in h).1 q.has)
      go (same e f) = q.lacks (rw (f, e) at p.has)

  -- what is preferred to a preferred list is preferred
  pub preferred-trans : (a b c : List ℕ) → Preferred n a b → Preferred n b c → Preferred n a c
  preferred-trans a b c p q = go (compare p.slot p.job q.slot q.job)
    where
      both : (s i : ℕ) → i < n → Sooner s i p.slot p.job → Sooner s i q.slot q.job → (at a i ≡ s) ↔ (at c i ≡ s)
      both s i l h k = let f = agree-sooner a b p s i l h in let g = agree-sooner b c q s i l k in (λ e. g.0 (f.0 e), λ e. f.1 (g.1 e))

      go : Compared p.slot p.job q.slot q.job → Preferred n a c
      go (sooner h) = record {
        slot = p.slot;
        job = p.job;
        job-in = p.job-in;
        before = λ s i l k. both s i k (inl l) (sooner-trans s i p.slot p.job q.slot q.job (inl l) h);
        lower = λ i l. both p.slot i (omega (arith, p.job-in)) (inr (refl, l))
            (sooner-trans p.slot i p.slot p.job q.slot q.job (inr (refl, l)) h);
        has = p.has;
        lacks = λ e. p.lacks ((agree-sooner b c q p.slot p.job p.job-in h).1 e);
      }
      go (later h) = record {
        slot = q.slot;
        job = q.job;
        job-in = q.job-in;
        before = λ s i l k. both s i k (sooner-trans s i q.slot q.job p.slot p.job (inl l) h) (inl l);
        lower = λ i l. both q.slot i (omega (arith, q.job-in)) (sooner-trans q.slot i q.slot q.job p.slot p.job (inr (refl, l)) h)
            (inr (refl, l));
        has = (agree-sooner a b p q.slot q.job q.job-in h).1 q.has;
        lacks = q.lacks;
      }
      go (same e f) = absurd (p.lacks (rw (f, e) q.has))

-- ---- two start lists that differ are ordered one way or the other

-- r and u have the same of the first k jobs in slot s
abbrev Agree : ℕ → ℕ → List ℕ → List ℕ → Type 0
Agree s k r u = (i : ℕ) → i < k → (at r i ≡ s) ↔ (at u i ≡ s)

-- of the first k jobs, the lowest that just one of them has in slot s stands there in r
record Lowest (s k : ℕ) (r u : List ℕ) : Type 0 where
  job : ℕ
  job-in : job < k
  lower : Agree s job r u
  has : at r job ≡ s
  lacks : at u job ≢ s

module _ (r u : List ℕ) where
  -- one slot: the first k jobs agree, or the lowest that does not decides
  slot_cases : (s k : ℕ) → Agree s k r u ⊎ (Lowest s k r u ⊎ Lowest s k u r)
  slot_cases s zero = inl (λ i h. absurd (omega arith))
  slot_cases s (suc k) = go (slot_cases s k) (ℕ_discrete (at r k) s) (ℕ_discrete (at u k) s)
    where
      more : (a b : List ℕ) → Lowest s k a b → Lowest s (suc k) a b
      more a b w = record { job = w.job; job-in = omega (arith, w.job-in); lower = w.lower; has = w.has; lacks = w.lacks }

      next : Agree s k r u → (at r k ≡ s) ↔ (at u k ≡ s) → (i : ℕ) → Dec (i ≡ k) → i < suc k → (at r i ≡ s) ↔ (at u i ≡ s)
      next f e i (yes q) h = rw q e
      next f e i (no q) h = f i (omega arith)

      go : Agree s k r u ⊎ (Lowest s k r u ⊎ Lowest s k u r) → Dec (at r k ≡ s) → Dec (at u k ≡ s) → Agree s (suc k) r u
          ⊎ (Lowest s (suc k) r u ⊎ Lowest s (suc k) u r)
      go (inl f) (yes a) (yes b) = inl (λ i. next f (λ _. b, λ _. a) i (ℕ_discrete i k))
      go (inl f) (yes a) (no b) = inr (inl record { job = k; job-in = omega arith; lower = f; has = a; lacks = b })
      go (inl f) (no a) (yes b) = inr (inr record { job = k; job-in = omega arith; lower = λ i h. ((f i h).1, (f i h).0); has = b; lacks = a })
      go (inl f) (no a) (no b) = inl (λ i. next f (λ e. absurd (a e), λ e. absurd (b e)) i (ℕ_discrete i k))
      go (inr (inl w)) c d = inr (inl (more r u w))
      go (inr (inr w)) c d = inr (inr (more u r w))

  -- k slots: they agree, or the first that does not decides
  slots-cases : (n k : ℕ) → ((s : ℕ) → s < k → Agree s n r u) ⊎ (Preferred n r u ⊎ Preferred n u r)
  slots-cases n zero = inl (λ s h. absurd (omega arith))
  slots-cases n (suc k) = go (slots-cases n k) (slot_cases k n)
    where
      decides : (a b : List ℕ) → ((s : ℕ) → s < k → Agree s n a b) → Lowest k n a b → Preferred n a b
      decides a b f w = record { slot = k; job = w.job; job-in = w.job-in; before = λ s i h l. f s h i l; lower = w.lower; has = w.has; lacks = w.lacks }

      next : ((s : ℕ) → s < k → Agree s n r u) → Agree k n r u → (s : ℕ) → Dec (s ≡ k) → s < suc k → Agree s n r u
      next f g s (yes q) h = rw q g
      next f g s (no q) h = f s (omega arith)

      go : ((s : ℕ) → s < k → Agree s n r u) ⊎ (Preferred n r u ⊎ Preferred n u r) → Agree k n r u ⊎ (Lowest k n r u ⊎ Lowest k n u r)
          → ((s : ℕ) → s < suc k → Agree s n r u) ⊎ (Preferred n r u ⊎ Preferred n u r)
      go (inl f) (inl g) = inl (λ s. next f g s (ℕ_discrete s k))
      go (inl f) (inr (inl w)) = inr (inl (decides r u f w))
      go (inl f) (inr (inr w)) = inr (inr (decides u r (λ s h i l. ((f s h i l).1, (f s h i l).0)) w))
      go (inr p) c = inr p

-- two start lists of n jobs are one, or one of them is preferred
pub preferred-total : (n : ℕ) (r u : List ℕ) → length r ≡ n → length u ≡ n → (r ≡ u) ⊎ (Preferred n r u ⊎ Preferred n u r)
preferred-total n r u lr lu = go (slots-cases r u n (suc (largest r)))
  where
    go : ((s : ℕ) → s < suc (largest r) → Agree s n r u) ⊎ (Preferred n r u ⊎ Preferred n u r) → (r ≡ u) ⊎ (Preferred n r u ⊎ Preferred n u r)
    go (inl f) = inl (ext_get_or 0 r u (lr ∙ sym lu) (λ i h. sym ((f (at r i) (omega (arith, at-largest r i h)) i (omega arith)).0 refl)))
    go (inr p) = inr p

-- ---- equal or preferred

-- r is u or is preferred to it
abbrev pub Weak : ℕ → List ℕ → List ℕ → Type 0
Weak n r u = (r ≡ u) ⊎ Preferred n r u

pub Weak-trans : (n : ℕ) (a b c : List ℕ) → Weak n a b → Weak n b c → Weak n a c
Weak-trans n a b c (inl e) q = rw e q
Weak-trans n a b c (inr p) (inl e) = inr (rw e at p)
Weak-trans n a b c (inr p) (inr q) = inr (preferred-trans n a b c p q)

pub Weak-antisym : (n : ℕ) (a b : List ℕ) → Weak n a b → Weak n b a → a ≡ b
Weak-antisym n a b (inl e) q = e
Weak-antisym n a b (inr p) (inl e) = sym e
Weak-antisym n a b (inr p) (inr q) = absurd (preferred-asym n a b p q)

-- the test says just that, of lists within L slots
pub preferred-is : (n L : ℕ) (r u : List ℕ) → Fits n L r → Fits n L u → T (preferredb L r u) ↔ Weak n r u
unfolding preferredb
preferred-is n L r u f g = (λ t. to t (preferred-total n r u f.len g.len), from (lex-total (slot_rows L 0 r) (slot_rows L 0 u)))
  where
    not_first : (a b : List ℕ) → Fits n L a → Fits n L b → Preferred n a b → T (preferredb L b a) → ⊥
    not_first a b h k p t = rows_before n a b h.len k.len p L 0 (omega arith) (omega (arith, h.below p.job p.job-in, p.has)) t

    to : T (preferredb L r u) → (r ≡ u) ⊎ (Preferred n r u ⊎ Preferred n u r) → Weak n r u
    to t (inl e) = inl e
    to t (inr (inl p)) = inr p
    to t (inr (inr p)) = absurd (not_first u r g f p t)

    from : T (preferredb L r u) ⊎ T (preferredb L u r) → Weak n r u → T (preferredb L r u)
    from o (inl e) = rw e (lex-refl (slot_rows L 0 u))
    from (inl t) (inr p) = t
    from (inr t) (inr p) = absurd (not_first r u f g p t)

-- ---- a result that is best among the lists that G holds of

-- none: G holds of no list; a list: G holds of it, and it is or is preferred to each list that G holds of
abbrev pub Best : ℕ → (List ℕ → Type 0) → Option (List ℕ) → Type 0
Best n G none = (u : List ℕ) → G u → ⊥
Best n G (some r) = G r × ((u : List ℕ) → G u → Weak n r u)

-- families with the same lists have the same best result
pub Best-iff : (n : ℕ) (A B : List ℕ → Type 0) → ((u : List ℕ) → A u → B u) → ((u : List ℕ) → B u → A u) → (o : Option (List ℕ)) → Best n A o → Best n B o
Best-iff n A B f g none h = λ u b. h u (g u b)
Best-iff n A B f g (some r) h = (f r h.0, λ u b. h.1 u (g u b))

-- it is enough to look at a part A of G, if each list of G has one in A that is no worse
pub Best-part : (n : ℕ) (A G : List ℕ → Type 0) → ((u : List ℕ) → A u → G u) → ((u : List ℕ) → G u → (v : List ℕ) × A v × Weak n v u)
    → (o : Option (List ℕ)) → Best n A o → Best n G o
Best-part n A G sub up none h = λ u g. h (up u g).0 (up u g).1
Best-part n A G sub up (some r) h = (sub r h.0, λ u g. let w = up u g in Weak-trans n r w.0 u (h.1 w.0 w.1) w.2)
