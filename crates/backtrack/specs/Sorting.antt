-- The candidates of a slot as the code sorts them: those of crate places, and the givers in the slot before that two of them share: where
-- there are none, no two share one. Assumes nothing.
use Rattle.std.specs.Prelude.{◌≡◌, refl, ◌⊎◌, Bool, ℕ}
use Rattle.std.proofs.Common.{sym, ap, ◌∙◌, ⊎_elim}
use Rattle.std.proofs.Math.Logic.{inl, inr}
use Rattle.std.proofs.Math.Bool.{true, false, and-eq-true_iff}
use mathlib.Core.List.{List, [], ◌∷◌, Memᴰ}
use Rattle.rules.specs.Basics.{choose}
use Rattle.jobset.specs.declared.Set.{Set}
use Rattle.jobset.specs.Sets.{member, empty, one, with, union, minus, intersection, is_subset, is_empty, members}
use Rattle.jobset.specs.Membership.{member-empty, in_one, in-union, in-intersection}
use Rattle.jobset.specs.Tests.{present}
use Rattle.places.specs.Tables.{Tables}
use Rattle.places.specs.Rows.{empty-says, Loose}
use Rattle.places.specs.Slot.{Candidates, is_forced, is_tied, sort_candidate, sort_candidates, candidates_of, carried, candidates_at, near_at, able_of, row_at}
use Rattle.places.specs.Slot.{in-row-at, in-forced}
use Rattle.backtrack.specs.declared.Found.{Found}

-- ---- the candidates with what is shared

-- without it
abbrev pub plain : Found → Candidates
plain c = record { forced = c.forced; tied = c.tied; tying = c.tying }

-- with p among the forced, and with p among the tied, `near` being its givers in the slot before
abbrev with_forced : Found → ℕ → Found
with_forced c p = record { forced = with c.forced p; tied = c.tied; tying = c.tying; shared = c.shared }

abbrev with_tied : Found → ℕ → Set → Found
with_tied c p near = record {
  forced = c.forced;
  tied = with c.tied p;
  tying = union c.tying near;
  shared = union c.shared
      (intersection c.tying near);
}

-- one more place, with its job's givers
unfoldable pub sort_place : Set → Set → ℕ → Set → Found → Found
sort_place done ran p givers c =
    choose (is_forced done ran givers) (with_forced c p) (choose (is_tied done ran givers) (with_tied c p (intersection givers ran)) c)

unfoldable pub sort_places : (ℕ → Set) → Set → Set → Found → List ℕ → Found
sort_places givers done ran c [] = c
sort_places givers done ran c (p ∷ ps) = sort_places givers done ran (sort_place done ran p (givers p) c) ps

-- no candidate yet
abbrev pub nothing : Found
nothing = record { forced = empty; tied = empty; tying = empty; shared = empty }

-- the candidates of slot s: of its places without `here`
unfoldable pub found_at : Tables → ℕ → Set → Set → Set → Found
found_at A s here done ran = sort_places (A.prev s) done ran nothing (members (minus (A.held s) here))

-- ---- they are the candidates

plain-sort : (done ran : Set) (p : ℕ) (givers : Set) (c : Found) → plain (sort_place done ran p givers c) ≡ sort_candidate done ran p givers (plain c)
unfolding sort_place sort_candidate choose
plain-sort done ran p givers c = go (is_forced done ran givers) refl (is_tied done ran givers) refl
  where
    go : (f : Bool) → is_forced done ran givers ≡ f → (t : Bool) → is_tied done ran givers ≡ t
        → plain (sort_place done ran p givers c) ≡ sort_candidate done ran p givers (plain c)
    go true e t q = rw (e)
    go false e true q = rw (e, q)
    go false e false q = rw (e, q)

plain-all : (givers : ℕ → Set) (done ran : Set) (ps : List ℕ) (c : Found)
    → plain (sort_places givers done ran c ps) ≡ sort_candidates givers done ran (plain c) ps
unfolding sort_places sort_candidates
plain-all givers done ran [] c = refl
plain-all givers done ran (p ∷ ps) c =
    plain-all givers done ran ps (sort_place done ran p (givers p) c)
    ∙ ap (λ (x : Candidates). sort_candidates givers done ran x ps) (plain-sort done ran p (givers p) c)

pub plain-found : (A : Tables) (s : ℕ) (done ran : Set) → plain (found_at A s (carried A s done) done ran) ≡ candidates_at A s done ran
unfolding found_at candidates_at candidates_of
plain-found A s done ran = plain-all (A.prev s) done ran (members (minus (A.held s) (carried A s done))) nothing

-- ---- where none is shared no two share a giver

-- of the candidates so far: the givers of the tied ones are tying, and where none is shared no two have one
record SharedHolds (near : ℕ → Set) (c : Found) : Type 0 where
  in-tying : (p k : ℕ) → member c.tied p ≡ true → member (near p) k ≡ true → member c.tying k ≡ true
  alone : is_empty c.shared ≡ true → (p q k : ℕ) → member c.tied p ≡ true → member c.tied q ≡ true
      → member (near p) k ≡ true → member (near q) k ≡ true → p ≡ q

module _ (givers : ℕ → Set) (done ran : Set) where
  abbrev near : ℕ → Set
  near p = intersection (givers p) ran

  shared-tied : (p : ℕ) (c : Found) → SharedHolds near c → SharedHolds near (with_tied c p (near p))
  unfolding with
  shared-tied p c t = record {
    in-tying = λ q k m n. (in-union c.tying (near p) k).1
        (⊎_elim (λ a. inl (t.in-tying q k a n)) (λ a. inr (rw ((in_one p q).0 a) at n)) ((in-union c.tied (one p) q).0 m));
    alone = λ s q r k m l n o. go s q r k ((in-union c.tied (one p) q).0 m) ((in-union c.tied (one p) r).0 l) n o;
  }
    where
      -- what is shared then
      both : Set
      both = intersection c.tying (near p)

      in-shared : (k : ℕ) → is_empty (union c.shared both) ≡ true → (member c.shared k ≡ true) ⊎ (member both k ≡ true) → ⊥
      in-shared k e m = (empty-says (union c.shared both)).0 e k ((in-union c.shared both k).1 m)

      none : is_empty (union c.shared both) ≡ true → is_empty c.shared ≡ true
      none e = (empty-says c.shared).1 (λ k m. in-shared k e (inl m))

      -- it is no giver yet
      new : is_empty (union c.shared both) ≡ true → (k : ℕ) → member (near p) k ≡ true → member c.tying k ≡ true → ⊥
      new e k n y = in-shared k e (inr ((in-intersection c.tying (near p) k).1 (y, n)))

      go : is_empty (union c.shared both) ≡ true → (q r k : ℕ) → (member c.tied q ≡ true) ⊎ (member (one p) q ≡ true)
          → (member c.tied r ≡ true) ⊎ (member (one p) r ≡ true) → member (near q) k ≡ true → member (near r) k ≡ true → q ≡ r
      go s q r k (inl a) (inl b) n o = t.alone (none s) q r k a b n o
      go s q r k (inl a) (inr b) n o = absurd (new s k (rw ((in_one p r).0 b) at o) (t.in-tying q k a n))
      go s q r k (inr a) (inl b) n o = absurd (new s k (rw ((in_one p q).0 a) at n) (t.in-tying r k b o))
      go s q r k (inr a) (inr b) n o = (in_one p q).0 a ∙ sym ((in_one p r).0 b)

  shared-sort : (p : ℕ) (c : Found) → SharedHolds near c → SharedHolds near (sort_place done ran p (givers p) c)
  unfolding sort_place choose
  shared-sort p c t = go (is_forced done ran (givers p)) (is_tied done ran (givers p))
    where
      go : (f b : Bool) → SharedHolds near (choose f (with_forced c p) (choose b (with_tied c p (near p)) c))
      go true b = record { in-tying = t.in-tying; alone = t.alone }
      go false true = shared-tied p c t
      go false false = t

  shared-all : (ps : List ℕ) (c : Found) → SharedHolds near c → SharedHolds near (sort_places givers done ran c ps)
  unfolding sort_places
  shared-all [] c t = t
  shared-all (p ∷ ps) c t = shared-all ps (sort_place done ran p (givers p) c) (shared-sort p c t)

-- a forced candidate has no giver in the slot before
forced-far : (A : Tables) (s : ℕ) (done ran : Set) (p k : ℕ) → member (candidates_at A s done ran).forced p ≡ true → member (near_at A s ran p) k ≡ true → ⊥
unfolding candidates_at is_forced near_at
forced-far A s done ran p k m =
    let w = (in-forced done ran (A.prev s) (minus (A.held s) (carried A s done)) p).0 m in
    (empty-says (intersection (A.prev s p) ran)).0 ((and-eq-true_iff (is_subset (A.prev s p) done) (is_empty (intersection (A.prev s p) ran))).0 w.2).1 k

found-shared : (A : Tables) (s : ℕ) (here done ran : Set) → SharedHolds (near_at A s ran) (found_at A s here done ran)
unfolding found_at near_at
found-shared A s here done ran = shared-all (A.prev s) done ran (members (minus (A.held s) here)) nothing record {
  in-tying = λ p k m. absurd (present (member empty p) m (member-empty p));
  alone = λ e p q k m. absurd (present (member empty p) m (member-empty p));
}

pub not-shared : (A : Tables) (s : ℕ) (done ran : Set) → is_empty (found_at A s (carried A s done) done ran).shared ≡ true
    → Loose (near_at A s ran) (row_at A s (candidates_at A s done ran))
unfolding able_of
not-shared A s done ran e p q k m l n o = (found-shared A s (carried A s done) done ran).alone e p q k (tied p m n) (tied q l o) n o
  where
    c : Candidates
    c = candidates_at A s done ran

    -- a candidate with a giver in the slot before is tied
    tied : (p : ℕ) → Memᴰ p (row_at A s c) → member (near_at A s ran p) k ≡ true → member (found_at A s (carried A s done) done ran).tied p ≡ true
    tied p m n =
        ap (λ (x : Candidates). member x.tied p) (plain-found A s done ran)
        ∙ ⊎_elim (λ f. absurd (forced-far A s done ran p k f n)) (λ t. t) ((in-union c.forced c.tied p).0 ((in-row-at A s c p).0 m).1)
