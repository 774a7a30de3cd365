-- Within a slot: some of its places have their boards, and one more gets its own. Assumes nothing.
use Rattle.std.specs.Prelude.{◌≡◌, refl, ◌≢◌, ◌⊎◌, ◌↔◌, false, List, [], ◌∷◌, ℕ, zero, suc, ◌+◌, ◌≤◌, ◌<◌, length, set}
use Rattle.std.proofs.Common.{sym, ap, ◌∙◌, inl, inr, ⊎_elim, arith, get_or-set_same}
use Rattle.std.proofs.Math.Bool.{true}
use Rattle.std.proofs.Math.Decide.{ℕ_discrete}
use Rattle.std.proofs.Math.ListN.{length-set}
use Rattle.std.proofs.Math.Seq.{get_or-set_other}
use Rattle.rules.specs.Sizes.{max_jobs}
use Rattle.rules.specs.Basics.{at}
use Rattle.rules.specs.Needs.{Gives}
use Rattle.laws.specs.BoardWords.{Inherits, TakesFirst, LowestLeft, lowest-same}
use Rattle.jobset.specs.Sets.{member, set_at, without}
use Rattle.jobset.specs.Membership.{without-same, without_other}
use Rattle.jobset.specs.Tests.{present}
use Rattle.layout.specs.Layout.{tables_in}
use Rattle.slotboards.specs.Placing.{Filling, takes, Plan, Below64}

-- a store keeps the bound
pub below_set : (b : List ℕ) (x c : ℕ) → c < 64 → Below64 b → Below64 (set b x c)
below_set [] x c h f y = f y
below_set (v ∷ b) zero c h f zero = h
below_set (v ∷ b) zero c h f (suc y) = f (suc y)
below_set (v ∷ b) (suc x) c h f zero = f 0
below_set (v ∷ b) (suc x) c h f (suc y) = below_set b x c h (λ r. f (suc r)) y

module _ {n : ℕ} {words path : List ℕ} {count : ℕ} (P : Plan n words path count) (s : ℕ) (l : s < count) (a : List ℕ) where
  open P use {needs, able}

  -- the start list
  abbrev pub t : List ℕ
  t = P.starts

  -- the job at a place of the slot
  abbrev pub job : ℕ → ℕ
  job p = (tables_in words).who s p

  -- the place has a job of the slot
  abbrev pub Here : ℕ → Type 0
  Here p = member (set_at path s) p ≡ true

  -- the places that Done says have their boards; a are the boards before the slot
  pub record State (Done : ℕ → Type 0) (z : Filling) : Type 0 where
    pub size : length z.boards ≡ max_jobs
    pub small : Below64 z.boards
    pub here : (p : ℕ) → Done p → Here p
    pub kept : (x : ℕ) → ((p : ℕ) → Done p → job p ≡ x → ⊥) → at z.boards x ≡ at a x
    pub left : (c : ℕ) → member z.free c ≡ true → (1 ≤ c) × (c < 64) × ((p : ℕ) → Done p → at z.boards (job p) ≡ c → ⊥)
    pub taken : (c : ℕ) → 1 ≤ c → c < 64 → member z.free c ≡ false → (p : ℕ) × Done p × (at z.boards (job p) ≡ c)
    pub handed : (p g : ℕ) → Done p → Gives needs g (job p) → at t g + 1 ≡ s → at z.boards (job p) ≡ at a g
    pub lowest : (p : ℕ) → Done p → ¬ Inherits needs t (job p) → LowestLeft n needs t z.boards (job p) (at z.boards (job p))

  -- a job of another slot keeps its board
  pub kept-else : (Done : ℕ → Type 0) (z : Filling) (x : ℕ) → at t x ≢ s → State Done z → at z.boards x ≡ at a x
  kept-else Done z x e m = m.kept x (λ p d q. e (ap (at t) (sym q) ∙ (able.at_place s p l (m.here p d)).2))

  -- the same places
  pub state-same : (D E : ℕ → Type 0) (z : Filling) → ((q : ℕ) → E q ↔ D q) → State D z → State E z
  state-same D E z f m = record {
    size = m.size;
    small = m.small;
    here = λ p d. m.here p ((f p).0 d);
    kept = λ x k. m.kept x (λ p d. k p ((f p).1 d));
    left = λ c k. let w = m.left c k in (w.0, w.1, λ p d. w.2 p ((f p).0 d));
    taken = λ c i j k. let w = m.taken c i j k in (w.0, (f w.0).1 w.1, w.2);
    handed = λ p g d. m.handed p g ((f p).0 d);
    lowest = λ p d. m.lowest p ((f p).0 d);
  }

  -- the job at place p takes the board c
  module _ (D E : ℕ → Type 0) (z : Filling) (p c : ℕ) (is-here : Here p) (new : D p → ⊥) (more : (q : ℕ) → E q ↔ ((q ≡ p) ⊎ D q)) (c-small : c < 64)
      (c-handed : (g : ℕ) → Gives needs g (job p) → at t g + 1 ≡ s → c ≡ at a g)
      (c-lowest : ¬ Inherits needs t (job p) → LowestLeft n needs t z.boards (job p) c)
      (last : (q : ℕ) → E q → ¬ Inherits needs t (job q) → ¬ TakesFirst needs t (job p) (job q)) (m : State D z) where
    -- the boards with that of p
    abbrev after : List ℕ
    after = set z.boards (job p) c

    -- the board of p, and those of the others
    own : at after (job p) ≡ c
    own = let w = able.at_place s p l is-here in let few = able.few in get_or-set_same z.boards (job p) c 0 (omega (arith, m.size, w.1))

    others : (q : ℕ) → D q → at after (job q) ≡ at z.boards (job q)
    others q d = get_or-set_other z.boards (job p) (job q) c 0 (λ e. new (rw (able.apart s q p l (m.here q d) is-here e) at d))

    -- what holds of p and of those before it holds of all
    both : (P : ℕ → Type 0) → P p → ((q : ℕ) → D q → P q) → (q : ℕ) → E q → P q
    both P f g q e = ⊎_elim (λ k. rw k f) (g q) ((more q).0 e)

    pub state-takes : State E (takes (job p) c z)
    unfolding takes
    state-takes = record {
      size = length-set z.boards (job p) c ∙ m.size;
      small = below_set z.boards (job p) c c-small m.small;
      here = both Here is-here m.here;
      kept = λ x k. get_or-set_other z.boards (job p) x c 0 (λ e. k p ((more p).1 (inl refl)) (sym e)) ∙ m.kept x (λ q d. k q ((more q).1 (inr d)));
      left = λ v k. let w = was-left v k (ℕ_discrete v c) in
          (w.1.0, w.1.1, both (λ q. at after (job q) ≡ v → ⊥) (λ e. w.0 (sym e ∙ own)) (λ q d e. w.1.2 q d (sym (others q d) ∙ e)));
      taken = λ v i j k. now-taken v i j k (ℕ_discrete v c);
      handed = λ q g e b f.
          both (λ q. Gives needs g (job q) → at after (job q) ≡ at a g) (λ b. own ∙ c-handed g b f) (λ q d b. others q d ∙ m.handed q g d b f) q e b;
      lowest = λ q e k. lowest-now q e k ((more q).0 e);
    }
      where
        was-left : (v : ℕ) → member (without z.free c) v ≡ true → Dec (v ≡ c)
            → (v ≢ c) × ((1 ≤ v) × (v < 64) × ((q : ℕ) → D q → at z.boards (job q) ≡ v → ⊥))
        was-left v k (yes e) = absurd (present (member (without z.free c) v) k (rw e (without-same z.free c)))
        was-left v k (no e) = (e, m.left v (sym (without_other z.free c v e) ∙ k))

        now-taken : (v : ℕ) → 1 ≤ v → v < 64 → member (without z.free c) v ≡ false → Dec (v ≡ c) → (q : ℕ) × E q × (at after (job q) ≡ v)
        now-taken v i j k (yes e) = (p, (more p).1 (inl refl), own ∙ sym e)
        now-taken v i j k (no e) =
            let w = m.taken v i j (sym (without_other z.free c v e) ∙ k) in
            (w.0, (more w.0).1 (inr w.1), others w.0 w.1 ∙ w.2)

        -- the board of p counts for none of those that have their boards
        lowest-now : (q : ℕ) → E q → ¬ Inherits needs t (job q) → (q ≡ p) ⊎ D q
            → LowestLeft n needs t after (job q) (at after (job q))
        lowest-now q e k o = lowest-same n needs t z.boards after (job q) (at after (job q))
            (λ j _ _ f. sym (get_or-set_other z.boards (job p) j c 0 (λ r. last q e k (rw r at f)))) (before o)
          where
            before : (q ≡ p) ⊎ D q → LowestLeft n needs t z.boards (job q) (at after (job q))
            before (inl r) = rw (r, own) (c-lowest (rw r at k))
            before (inr d) = rw (others q d) (m.lowest q d k)
