-- What the maximal sets of a slot are where it has room for them: all candidates without a giver in the slot before, and one taker for each job there
-- that has candidates. Assumes nothing.
-- Its definitions: specs/Exact.antt.
use Rattle.std.specs.Prelude.{◌≡◌, refl, ◌⊎◌, ◌↔◌, ℕ, ◌+◌}
use Rattle.std.proofs.Common.{inl, inr, ⊎_elim}
use mathlib.Core.List.{List, ◌∷◌, Memᴰ}
use Rattle.rules.specs.Basics.{at}
use Rattle.rules.specs.Needs.{Gives}
use Rattle.laws.specs.Lists.{dec_mem}
use Rattle.dominance.specs.Exchange.{Able}
use Rattle.dominance.specs.States.{Instance, AtMost, Legal, Allowed}
use Rattle.dominance.specs.Tests.{gives-dec, GiverBefore}
use Rattle.dominance.proofs.Tests.{giver-before-dec}
use Rattle.dominance.specs.Maximal.{Maximal}
use Rattle.dominance.specs.Exact.{Forced, Tied, Exact, Parts, dec_any}

module _ (I : Instance) (s : ℕ) (t : List ℕ) where
  -- what may run, the needs let run; and that runs where it is no more than the slot takes
  pub legal : (S : List ℕ) → Allowed I s t S → Legal I s t S
  legal S ok = record { able = ok.able; candidate = ok.candidate; give-one = ok.give-one }

  pub allow : (S : List ℕ) → Legal I s t S → AtMost I.cap S → Allowed I s t S
  allow S ok few = record { able = ok.able; candidate = ok.candidate; give-one = ok.give-one; few = few }

  -- a candidate that its givers let run is forced or tied
  pub forced-or-tied : (x : ℕ) → Memᴰ x (I.candidates s) → Able (Gives I.needs) s t x → Forced I s t x ⊎ Tied I s t x
  forced-or-tied x m a = go (giver-before-dec I.needs s t x)
    where
      go : Dec (GiverBefore I.needs s t x) → Forced I s t x ⊎ Tied I s t x
      go (yes g) = inr record { candidate = m; able = a; giver = g }
      go (no n) = inl record { candidate = m; able = a; alone = n }

  -- ---- one job more

  -- the needs let a set run with any forced job more
  pub forced-legal : (S : List ℕ) → Legal I s t S → (x : ℕ) → Forced I s t x → Legal I s t (x ∷ S)
  forced-legal S ok x f = record {
    able = λ y w. ⊎_elim (λ e. rw e f.able) (ok.able y) (mathlib.Core.List.Memᴰ.cases_cons w);
    candidate = λ y w. ⊎_elim (λ e. rw e f.candidate) (ok.candidate y) (mathlib.Core.List.Memᴰ.cases_cons w);
    give-one = λ g j k p q mj mk e. one g j k p q e (mathlib.Core.List.Memᴰ.cases_cons mj) (mathlib.Core.List.Memᴰ.cases_cons mk);
  }
    where
      one : (g j k : ℕ) → Gives I.needs g j → Gives I.needs g k → at t g + 1 ≡ s → (j ≡ x) ⊎ Memᴰ j S → (k ≡ x) ⊎ Memᴰ k S → j ≡ k
      one g j k p q e (inl a) b = absurd (f.alone (g, rw a at p, e))
      one g j k p q e (inr a) (inl b) = absurd (f.alone (g, rw b at q, e))
      one g j k p q e (inr a) (inr b) = ok.give-one g j k p q a b e

  -- and with a tied job more, if no taker of its giver in the slot before is there
  pub tied-legal : (S : List ℕ) → Legal I s t S → (j : ℕ) (d : Tied I s t j) → ((k : ℕ) → Gives I.needs d.giver.0 k → Memᴰ k S → ⊥)
      → Legal I s t (j ∷ S)
  tied-legal S ok j d free = record {
    able = λ y k. ⊎_elim (λ q. rw q d.able) (ok.able y) (mathlib.Core.List.Memᴰ.cases_cons k);
    candidate = λ y k. ⊎_elim (λ q. rw q d.candidate) (ok.candidate y) (mathlib.Core.List.Memᴰ.cases_cons k);
    give-one = λ h i k a b mi mk r. one h i k a b r (mathlib.Core.List.Memᴰ.cases_cons mi) (mathlib.Core.List.Memᴰ.cases_cons mk);
  }
    where
      -- no member of S is a taker of a giver of j in the slot before
      none : (h k : ℕ) → Gives I.needs h j → Gives I.needs h k → at t h + 1 ≡ s → Memᴰ k S → ⊥
      none h k a b r m = let q : h ≡ d.giver.0 = d.able.take-one h d.giver.0 a d.giver.1 r d.giver.2 in free k (rw q at b) m

      one : (h i k : ℕ) → Gives I.needs h i → Gives I.needs h k → at t h + 1 ≡ s → (i ≡ j) ⊎ Memᴰ i S → (k ≡ j) ⊎ Memᴰ k S → i ≡ k
      one h i k a b r (inl x) (inl y) = rw (x, y) refl
      one h i k a b r (inl x) (inr y) = absurd (none h k (rw x at a) b r y)
      one h i k a b r (inr x) (inl y) = absurd (none h i (rw y at b) a r x)
      one h i k a b r (inr x) (inr y) = ok.give-one h i k a b x y r

  -- ---- where the slot has room

  -- A has tied jobs, and at most one taker for each job of the slot before
  abbrev pub AtMostOne : List ℕ → Type 0
  AtMostOne A = ((x : ℕ) → Memᴰ x A → Tied I s t x)
      × ((g j k : ℕ) → Gives I.needs g j → Gives I.needs g k → Memᴰ j A → Memᴰ k A → at t g + 1 ≡ s → j ≡ k)

  -- the needs let all that is forced run with such a set
  pub parts-legal : (S A : List ℕ) → Parts I s t S A → AtMostOne A → Legal I s t S
  parts-legal S A parts ex = record {
    able = λ x m. ⊎_elim (λ f. f.able) (λ a. (ex.0 x a).able) ((parts x).0 m);
    candidate = λ x m. ⊎_elim (λ f. f.candidate) (λ a. (ex.0 x a).candidate) ((parts x).0 m);
    give-one = λ g j k p q mj mk e. one g j k p q e ((parts j).0 mj) ((parts k).0 mk);
  }
    where
      one : (g j k : ℕ) → Gives I.needs g j → Gives I.needs g k → at t g + 1 ≡ s → Forced I s t j ⊎ Memᴰ j A → Forced I s t k ⊎ Memᴰ k A → j ≡ k
      one g j k p q e (inl a) b = absurd (a.alone (g, p, e))
      one g j k p q e (inr a) (inl b) = absurd (b.alone (g, q, e))
      one g j k p q e (inr a) (inr b) = ex.1 g j k p q a b e

  -- with an exact one this is maximal where it is no more than the slot takes
  pub exact-maximal : (S A : List ℕ) → Parts I s t S A → Exact I s t A → AtMost I.cap S → Maximal I s t S
  exact-maximal S A parts ex few = record {
    allowed = allow S (parts-legal S A parts (ex.tied, ex.one)) few;
    no_more = λ x out ok. more x out ok (forced-or-tied x (ok.candidate x (mathlib.Core.List.Memᴰ.head refl)) (ok.able x (mathlib.Core.List.Memᴰ.head refl)));
  }
    where
      more : (x : ℕ) → ¬ (Memᴰ x S) → Allowed I s t (x ∷ S) → Forced I s t x ⊎ Tied I s t x → ⊥
      more x out ok (inl f) = out ((parts x).1 (inl f))
      more x out ok (inr d) =
          let w = ex.served d.giver.0 x d.giver.1 d d.giver.2 in
          let m : Memᴰ w.0 S = (parts w.0).1 (inr w.2) in
          out (rw (ok.give-one d.giver.0 w.0 x w.1 d.giver.1 (mathlib.Core.List.Memᴰ.tail m) (mathlib.Core.List.Memᴰ.head refl) d.giver.2) at m)

  -- and, where the slot takes all that the needs let run, each maximal set is so, with A its tied jobs
  module _ (has_room : (R : List ℕ) → Legal I s t R → AtMost I.cap R) (S : List ℕ) (mx : Maximal I s t S) (A : List ℕ) (A-is : (x : ℕ) → Memᴰ x A
      ↔ (Memᴰ x S × Tied I s t x)) where
    in-S : (x : ℕ) → Legal I s t (x ∷ S) → Dec (Memᴰ x S) → Memᴰ x S
    in-S x ok (yes m) = m
    in-S x ok (no m) = absurd (mx.no_more x m (allow (x ∷ S) ok (has_room (x ∷ S) ok)))

    pub maximal-parts : Parts I s t S A
    maximal-parts x = (
      λ m. ⊎_elim inl (λ d. inr ((A-is x).1 (m, d))) (forced-or-tied x (mx.allowed.candidate x m) (mx.allowed.able x m)),
      λ h. ⊎_elim (λ f. in-S x (forced-legal S (legal S mx.allowed) x f) (dec_mem x S)) (λ a. ((A-is x).0 a).0) h,
    )

    pub maximal-exact : Exact I s t A
    maximal-exact = record {
      tied = λ x m. ((A-is x).0 m).1;
      one = λ g j k p q mj mk e. mx.allowed.give-one g j k p q ((A-is j).0 mj).0 ((A-is k).0 mk).0 e;
      served = λ g j p d e. served g j p d e (dec_any (gives-dec I.needs g) A);
    }
      where
        served : (g j : ℕ) → Gives I.needs g j → Tied I s t j → at t g + 1 ≡ s → Dec ((k : ℕ) × Gives I.needs g k × Memᴰ k A) → (k : ℕ)
            × Gives I.needs g k × Memᴰ k A
        served g j p d e (yes w) = w
        served g j p d e (no w) = absurd (w (j, p, (A-is j).1 (in-S j (tied-legal S (legal S mx.allowed) j d' free) (dec_mem j S), d)))
          where
            d' : Tied I s t j
            d' = record { candidate = d.candidate; able = d.able; giver = (g, p, e) }

            free : (k : ℕ) → Gives I.needs g k → Memᴰ k S → ⊥
            free k b m = ⊎_elim (λ f. f.alone (g, b, e)) (λ z. w (k, b, z)) ((maximal-parts k).0 m)
