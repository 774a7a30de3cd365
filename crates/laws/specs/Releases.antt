-- Releases: without circles formula (1) has one solution, n rounds compute it, and no start list that keeps the rules starts a job earlier. Assumes nothing.
use Rattle.std.specs.Prelude.{◌≡◌, ◌≢◌, ◌⊎◌, ◌↔◌, ◌||◌, length, ltb, eqb}
use Rattle.std.proofs.Math.Path.{refl, sym}
use Rattle.std.proofs.Common.{ap, ◌∙◌, inr, arith, zero-add}
use Rattle.std.proofs.Math.Logic.{inl}
use Rattle.std.proofs.Math.Bool.{Bool, true, false}
use mathlib.Core.List.Memᴰ
use mathlib.Core.List.{List, [], ◌∷◌, Memᴰ}
use Prim.Native.Nat.{ℕ, zero, suc, ◌+◌, ◌≤◌, ◌<◌, max}
use Rattle.std.proofs.Math.Decide.{dec_lt, ℕ_discrete}
use Rattle.std.proofs.lemmas.List.{length-replicate}
use Rattle.std.proofs.Math.ListN.{get_or-eq_default}
use Rattle.std.proofs.Math.Dec.{T}
use Rattle.rules.specs.Basics.{choose, at, imp, all, count}
use Rattle.rules.specs.Needs.{Need, Gives, NeedsIn, Circle, marked, rounds}
use Rattle.rules.specs.Program.{Kept, all₂}
use Rattle.rules.specs.Windows.{Value1, Formula1, latest, untied, release_by, releases, release}
use Rattle.laws.specs.Tests.{T-or, T-ltb, T-eqb, not-all, not-imp, by-choice, tests}
use Rattle.laws.specs.Lists.{tabulate-at, length-tabulate, zeros-at}
use Rattle.laws.specs.Counting.{count-lt, count_most}
use Rattle.laws.specs.Circles.{none-marked, giver-first, free-marked}

-- ---- formula (1) by cases

-- the case that holds at job i, with the value v that it gives
pub data Case (needs : List Need) (r : ℕ → ℕ) (i v : ℕ) : Type 0 where
  nobody : ((g : ℕ) → Gives needs g i → ⊥) → v ≡ 0 → Case needs r i v
  single : (j : ℕ) → Gives needs j i → ((g : ℕ) → Gives needs g i → g ≢ j → r g < r j) → v ≡ r j + 1 → Case needs r i v
  double : (j k : ℕ) → Gives needs j i → Gives needs k i → j ≢ k → r j ≡ r k → ((g : ℕ) → Gives needs g i → r g ≤ r j) → v ≡ r j + 2 → Case needs r i v

-- where all other givers of i have an earlier date r than j, none has a later one
pub none-later : (needs : List Need) (r : ℕ → ℕ) (i j : ℕ) → ((g : ℕ) → Gives needs g i → g ≢ j → r g < r j) → (g : ℕ) → Gives needs g i → r g ≤ r j
none-later needs r i j h g m = go (ℕ_discrete g j)
  where
    go : Dec (g ≡ j) → r g ≤ r j
    go (yes e) = rw e (omega arith)
    go (no e) = omega (arith, h g m e)

module _ (r : ℕ → ℕ) (i : ℕ) where
  latest-ge : (ds : List Need) (g : ℕ) → Gives ds g i → suc (r g) ≤ latest r ds i
  unfolding latest choose
  latest-ge [] g m = absurd (Memᴰ.not-nil m)
  latest-ge (d ∷ ds) g m = go (eqb d.1 i) (T-eqb d.1 i).1 (Memᴰ.cases_cons m) (latest-ge ds g)
    where
      go : (b : Bool) → (d.1 ≡ i → T b) → (◌≡◌ {A = Need} (g, i) d) ⊎ Gives ds g i → (Gives ds g i → suc (r g) ≤ latest r ds i)
          → suc (r g) ≤ max (choose b (suc (r d.0)) 0) (latest r ds i)
      go true f (inl e) k = let p : g ≡ d.0 = λ x. (e x).0 in rw p (omega arith)
      go true f (inr w) k = omega (arith, k w)
      go false f (inl e) k = absurd (f (λ x. (sym e x).1))
      go false f (inr w) k = omega (arith, k w)

  -- m is 0, or one more than the release of a giver of i
  abbrev Reached : List Need → ℕ → Type 0
  Reached ds m = (m ≡ 0) ⊎ ((j : ℕ) × Gives ds j i × (m ≡ suc (r j)))

  latest-at : (ds : List Need) → Reached ds (latest r ds i)
  unfolding latest choose
  latest-at [] = inl refl
  latest-at (d ∷ ds) = go (eqb d.1 i) (T-eqb d.1 i).0 (latest-at ds)
    where
      here : d.1 ≡ i → Gives (d ∷ ds) d.0 i
      here e = Memᴰ.head (λ x. (d.0, sym e x))

      go : (b : Bool) → (T b → d.1 ≡ i) → Reached ds (latest r ds i) → Reached (d ∷ ds) (max (choose b (suc (r d.0)) 0) (latest r ds i))
      go false f (inl e) = inl (omega arith)
      go false f (inr (j, a, e)) = inr (j, Memᴰ.tail a, omega arith)
      go true f (inl e) = inr (d.0, here (f tt), omega arith)
      go true f (inr (j, a, e)) = pick (dec_lt (r d.0) (r j))
        where
          pick : Dec (r d.0 < r j) → Reached (d ∷ ds) (max (suc (r d.0)) (latest r ds i))
          pick (yes l) = inr (j, Memᴰ.tail a, omega arith)
          pick (no l) = inr (d.0, here (f tt), omega arith)

module _ (r : ℕ → ℕ) (needs : List Need) (i m : ℕ) where
  untied-one : T (untied r needs i m) → (j k : ℕ) → Gives needs j i → Gives needs k i → suc (r j) ≡ m → suc (r k) ≡ m → j ≡ k
  unfolding untied all₂
  untied-one t j k a b = (simp tests at t) (j, i) a (k, i) b refl refl

  -- two givers of i that have m
  record Tie : Type 0 where
    j : ℕ
    k : ℕ
    j-gives : Gives needs j i
    k-gives : Gives needs k i
    apart : j ≢ k
    j-has : suc (r j) ≡ m
    k-has : suc (r k) ≡ m

  untied-two : ¬ T (untied r needs i m) → Tie
  unfolding untied all₂
  untied-two h = let v = not-all (λ d. all (λ e. test d e) needs) needs h in let w = not-all (λ e. test v.0 e) needs v.2 in
      two v.0 w.0 v.1 w.1 w.2
    where
      test : Need → Need → Bool
      test d e = imp (eqb d.1 i) (imp (eqb e.1 i) (imp (eqb (suc (r d.0)) m) (imp (eqb (suc (r e.0)) m) (eqb d.0 e.0))))

      two : (d e : Need) → Memᴰ d needs → Memᴰ e needs → ¬ T (test d e) → Tie
      two d e a b h =
          let p = not-imp (eqb d.1 i) _ h in
          let q = not-imp (eqb e.1 i) _ p.1 in
          let u = not-imp (eqb (suc (r d.0)) m) _ q.1 in
          let v = not-imp (eqb (suc (r e.0)) m) _ u.1 in
          record {
            j = d.0;
            k = e.0;
            j-gives = rw ((T-eqb d.1 i).0 p.0) at a;
            k-gives = rw ((T-eqb e.1 i).0 q.0) at b;
            apart = λ c. v.1 (simp tests c);
            j-has = simp tests at u.0;
            k-has = simp tests at v.0;
          }

-- the computed value is that of a case
pub release-case : (needs : List Need) (r : ℕ → ℕ) (i : ℕ) → Case needs r i (release_by r needs i)
unfolding release_by
release-case needs r i = go (latest-at r i needs)
  where
    m : ℕ
    m = latest r needs i

    go : Reached r i needs m → Case needs r i (choose (untied r needs i m) m (suc m))
    go (inl e) = by-choice (Case needs r i) (untied r needs i m)
        (λ t. nobody (λ g a. omega (arith, latest-ge r i needs g a)) e)
        (λ h. absurd (omega (arith, (untied-two r needs i m h).j-has)))
    go (inr (j, a, e)) = by-choice (Case needs r i) (untied r needs i m)
        (λ t. single j a (λ g b q. below t g b q (ℕ_discrete (r g) (r j))) (omega arith))
        (λ h. let w = untied-two r needs i m h in
        double w.j w.k w.j-gives w.k-gives w.apart (omega (arith, w.j-has, w.k-has)) (λ g b. omega (arith, w.j-has, latest-ge r i needs g b))
        (omega (arith, w.j-has)))
      where
        below : T (untied r needs i m) → (g : ℕ) → Gives needs g i → g ≢ j → Dec (r g ≡ r j) → r g < r j
        below t g b q (yes p) = absurd (q (untied-one r needs i m t g j b a (omega arith) (omega arith)))
        below t g b q (no p) = omega (arith, latest-ge r i needs g b)

-- a case gives its value as the printed formula does
pub case-value : (needs : List Need) (r : ℕ → ℕ) (i v : ℕ) → Case needs r i v → Value1 needs r i v
case-value needs r i v (nobody k e) = record { no-giver = λ h. e; lone = λ j a l. absurd (k j a); tied = λ j c a b d p l. absurd (k j a) }
case-value needs r i v (single j a l e) = record {
  no-giver = λ h. absurd (h j a);
  lone = λ h b k. same h b k (ℕ_discrete h j);
  tied = λ h c b d n p k. absurd (two h c b d n p k (ℕ_discrete h j) (ℕ_discrete c j));
}
  where
    same : (h : ℕ) → Gives needs h i → ((g : ℕ) → Gives needs g i → g ≢ h → r g < r h) → Dec (h ≡ j) → v ≡ r h + 1
    same h b k (yes p) = rw p e
    same h b k (no p) = absurd (omega (arith, l h b p, k j a (λ s. p (sym s))))

    two : (h c : ℕ) → Gives needs h i → Gives needs c i → h ≢ c → r h ≡ r c → ((g : ℕ) → Gives needs g i → r g ≤ r h) → Dec (h ≡ j) → Dec (c ≡ j) → ⊥
    two h c b d n p k (yes s) (yes t) = n (s ∙ sym t)
    two h c b d n p k (yes s) (no t) = omega (arith, l c d t, k j a, ap r s)
    two h c b d n p k (no s) w = omega (arith, l h b s, k j a)
case-value needs r i v (double j c a b d p l e) = record {
  no-giver = λ h. absurd (h j a);
  lone = λ h s k. absurd (two h s k (ℕ_discrete j h) (ℕ_discrete c h));
  tied = λ h s x y z w k. omega (arith, l h x, k j a);
}
  where
    two : (h : ℕ) → Gives needs h i → ((g : ℕ) → Gives needs g i → g ≢ h → r g < r h) → Dec (j ≡ h) → Dec (c ≡ h) → ⊥
    two h s k (yes u) (yes w) = d (u ∙ sym w)
    two h s k (yes u) (no w) = omega (arith, k c b w, l h s, ap r u)
    two h s k (no u) w = omega (arith, k j a u, l h s)

value-case : (needs : List Need) (r : ℕ → ℕ) (i v w : ℕ) → Value1 needs r i v → Case needs r i w → v ≡ w
value-case needs r i v w f (nobody k e) = f.no-giver k ∙ sym e
value-case needs r i v w f (single j a l e) = f.lone j a l ∙ sym e
value-case needs r i v w f (double j k a b d q l e) = f.tied j k a b d q l ∙ sym e

-- formula (1) has one value at each job, the computed one
pub value1-is : (needs : List Need) (r : ℕ → ℕ) (i v : ℕ) → Value1 needs r i v ↔ (v ≡ release_by r needs i)
value1-is needs r i v = (
  λ f. value-case needs r i v (release_by r needs i) f (release-case needs r i),
  λ e. rw e (case-value needs r i (release_by r needs i) (release-case needs r i)),
)

-- so every way to find the case computes the same
pub case-release : (needs : List Need) (r : ℕ → ℕ) (i v : ℕ) → Case needs r i v → v ≡ release_by r needs i
case-release needs r i v c = (value1-is needs r i v).0 (case-value needs r i v c)

-- ---- the formula reads the releases of the givers alone

case_same : (needs : List Need) (r q : ℕ → ℕ) (i v : ℕ) → ((g : ℕ) → Gives needs g i → r g ≡ q g) → Case needs r i v → Case needs q i v
case_same needs r q i v h (nobody k e) = nobody k e
case_same needs r q i v h (single j a l e) = single j a (λ g b d. omega (arith, l g b d, h g b, h j a)) (omega (arith, h j a))
case_same needs r q i v h (double j k a b d p l e) = double j k a b d (omega (arith, h j a, h k b)) (λ g c. omega (arith, l g c, h g c, h j a))
    (omega (arith, h j a))

release-same : (needs : List Need) (r q : ℕ → ℕ) (i : ℕ) → ((g : ℕ) → Gives needs g i → r g ≡ q g) → release_by r needs i ≡ release_by q needs i
release-same needs r q i h = case-release needs q i (release_by r needs i) (case_same needs r q i (release_by r needs i) h (release-case needs r i))

-- ---- rounds

-- a release for each job
pub length-releases : (n f : ℕ) (needs : List Need) → length (releases n needs f) ≡ n
unfolding releases
length-releases n zero needs = length-replicate n 0
length-releases n (suc f) needs = length-tabulate (release_by (at (releases n needs f)) needs) n 0

-- a round takes the formula once
pub release-step : (n f : ℕ) (needs : List Need) (i : ℕ) → i < n → at (releases n needs (suc f)) i ≡ release_by (at (releases n needs f)) needs i
unfolding releases
release-step n f needs i h = tabulate-at (release_by (at (releases n needs f)) needs) n 0 i 0 h ∙ ap (release_by (at (releases n needs f)) needs) (zero-add i)

module _ (n : ℕ) (needs : List Need) (needs-in : NeedsIn n needs) where
  stable : (f i : ℕ) → i < n → T (marked (rounds n needs f) i) → at (releases n needs f) i ≡ at (releases n needs (suc f)) i
  stable zero i h t = absurd (none-marked n needs i t)
  stable (suc f) i h t =
      release-step n f needs i h
      ∙ release-same needs (at (releases n needs f)) (at (releases n needs (suc f))) i
      (λ g m. stable f g (needs-in g i m).0 (giver-first n needs needs-in f g i m t))
      ∙ sym (release-step n (suc f) needs i h)

  -- the releases satisfy formula (1)
  pub release-formula : ¬ (Circle needs) → (i : ℕ) → i < n → Formula1 needs (release n needs) i
  release-formula free i h = (value1-is needs (release n needs) i (release n needs i)).1 (stable n i h (free-marked n needs needs-in free i h)
      ∙ release-step n n needs i h)

  -- so each release is the value of a case
  pub release-at : ¬ (Circle needs) → (i : ℕ) → i < n → Case needs (release n needs) i (release n needs i)
  release-at free i h =
      let e = (value1-is needs (release n needs) i (release n needs i)).0 (release-formula free i h) in
      rw (← e) at (release-case needs (release n needs) i)

  only : (r : ℕ → ℕ) → ((i : ℕ) → i < n → Formula1 needs r i) → (f i : ℕ) → i < n → T (marked (rounds n needs f) i) → r i ≡ at (releases n needs f) i
  only r h zero i l t = absurd (none-marked n needs i t)
  only r h (suc f) i l t =
      (value1-is needs r i (r i)).0 (h i l)
      ∙ release-same needs r (at (releases n needs f)) i (λ g m. only r h f g (needs-in g i m).0 (giver-first n needs needs-in f g i m t))
      ∙ sym (release-step n f needs i l)

  -- and nothing else does
  pub release-only : ¬ (Circle needs) → (r : ℕ → ℕ) → ((i : ℕ) → i < n → Formula1 needs r i) → (i : ℕ) → i < n → r i ≡ release n needs i
  release-only free r h i l = only r h n i l (free-marked n needs needs-in free i l)

-- ---- how releases lie

module _ {n : ℕ} {needs : List Need} (needs-in : NeedsIn n needs) (free : ¬ (Circle needs)) where
  abbrev rel : ℕ → ℕ
  rel = release n needs

  case-later : (g k v : ℕ) → Gives needs g k → Case needs rel k v → rel g + 1 ≤ v
  case-later g k v a (nobody h e) = absurd (h g a)
  case-later g k v a (single j b l e) = omega (arith, none-later needs rel k j l g a)
  case-later g k v a (double i j b c d p l e) = omega (arith, l g a)

  -- the release of a taker is later than its giver's
  pub release-later : (g k : ℕ) → Gives needs g k → rel g + 1 ≤ rel k
  release-later g k a = case-later g k (rel k) a (release-at n needs needs-in free k (needs-in g k a).1)

  -- job j has a release below v
  earlier : ℕ → ℕ → Bool
  earlier v j = ltb (rel j) v

  is-earlier : (v j : ℕ) → T (earlier v j) ↔ (rel j < v)
  unfolding earlier
  is-earlier v j = T-ltb (rel j) v

  -- behind the release of j there is one job more with an earlier release; where another has the same release, two
  one_more : (v j : ℕ) → j < n → rel j < v → count (earlier (rel j)) n < count (earlier v) n
  one_more v j h l =
      count-lt (earlier (rel j)) (earlier v) n j (λ i _ t. (is-earlier v i).1 (omega (arith, (is-earlier (rel j) i).0 t))) h
      (λ t. omega (arith, (is-earlier (rel j) j).0 t)) ((is-earlier v j).1 l)

  two-more : (v j k : ℕ) → j < n → k < n → j ≢ k → rel j ≡ rel k → rel j < v → count (earlier (rel j)) n + 2 ≤ count (earlier v) n
  two-more v j k h u d e l = omega (
    arith,
    count-lt (earlier (rel j)) or-j n j (λ i _ t. (or_is i).1 (inl t)) h (λ t. omega (arith, (is-earlier (rel j) j).0 t)) ((or_is j).1 (inr ((T-eqb j j).1 refl))),
    count-lt or-j (earlier v) n k (λ i _ t. within i ((or_is i).0 t)) u (λ t. apart ((or_is k).0 t)) ((is-earlier v k).1 (omega arith)),
  )
    where
      or-j : ℕ → Bool
      or-j i = earlier (rel j) i || eqb i j

      or_is : (i : ℕ) → T (or-j i) ↔ (T (earlier (rel j) i) ⊎ T (eqb i j))
      or_is i = T-or (earlier (rel j) i) (eqb i j)

      within : (i : ℕ) → T (earlier (rel j) i) ⊎ T (eqb i j) → T (earlier v i)
      within i (inl t) = (is-earlier v i).1 (omega (arith, (is-earlier (rel j) i).0 t))
      within i (inr t) = (is-earlier v i).1 (rw ((T-eqb i j).0 t) l)

      apart : T (earlier (rel j) k) ⊎ T (eqb k j) → ⊥
      apart (inl t) = omega (arith, (is-earlier (rel j) k).0 t)
      apart (inr t) = d (sym ((T-eqb k j).0 t))

  case-many : (b i v : ℕ) → v ≤ suc b → Case needs rel i v → ((j : ℕ) → rel j ≤ b → j < n → rel j ≤ count (earlier (rel j)) n) → v ≤ count (earlier v) n
  case-many b i v l (nobody h e) many = omega arith
  case-many b i v l (single j a h e) many =
      let c = (needs-in j i a).0 in
      omega (arith, many j (omega arith) c, one_more v j c (omega arith))
  case-many b i v l (double j k a d x p h e) many =
      let c = (needs-in j i a).0 in
      omega (arith, many j (omega arith) c, two-more v j k c (needs-in k i d).0 x p (omega arith))

  -- as many jobs as the release of i says have an earlier one; b bounds the release
  as_many : (b i : ℕ) → rel i ≤ b → i < n → rel i ≤ count (earlier (rel i)) n
  as_many zero i l h = omega arith
  as_many (suc b) i l h = case-many b i (rel i) l (release-at n needs needs-in free i h) (as_many b)

  -- so no release is as large as the number of jobs
  pub release-below : (i : ℕ) → i < n → rel i < n
  release-below i h = omega (
    arith,
    as_many (rel i) i (omega arith) h,
    count-lt (earlier (rel i)) (λ j. true) n i (λ j _ t. tt) h (λ t. omega (arith, (is-earlier (rel i) i).0 t)) tt,
    count_most (λ j. true) n,
  )

-- ---- the lower bound

module _ (needs : List Need) (τ : ℕ → ℕ) (kept : Kept (Gives needs) τ) where
  case-le : (r : ℕ → ℕ) (i v : ℕ) → ((g : ℕ) → r g ≤ τ g) → Case needs r i v → v ≤ τ i
  case-le r i v h (nobody k e) = omega arith
  case-le r i v h (single j a l e) = omega (arith, h j, kept.later j i a)
  case-le r i v h (double j k a b d p l e) = go (ℕ_discrete (τ i) (r j + 1))
    where
      go : Dec (τ i ≡ r j + 1) → v ≤ τ i
      go (yes q) = absurd (d (kept.take-one j k i a b (omega (arith, h j, kept.later j i a)) (omega (arith, h k, kept.later k i b))))
      go (no q) = omega (arith, h j, kept.later j i a)

  -- no job starts before its release, whatever the number f of rounds
  pub release-le : (n f i : ℕ) → at (releases n needs f) i ≤ τ i
  unfolding releases
  release-le n zero i = rw (zeros-at n i) (omega arith)
  release-le n (suc f) i = go (dec_lt i n) (release-le n f)
    where
      go : Dec (i < n) → ((g : ℕ) → at (releases n needs f) g ≤ τ g) → at (releases n needs (suc f)) i ≤ τ i
      go (yes h) r = rw (release-step n f needs i h)
          (case-le (at (releases n needs f)) i (release_by (at (releases n needs f)) needs i) r (release-case needs (at (releases n needs f)) i))
      go (no h) r = omega (arith, get_or-eq_default (releases n needs (suc f)) 0 {n = i} (omega (arith, length-releases n (suc f) needs)))
