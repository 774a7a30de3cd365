-- The search over places with a bitmap of the states that have no plan, and that the bitmap changes nothing. The key of a state tells it
-- from every other, so a marked state is the very state that was found to have none. Assumes nothing.
-- Its definitions: specs/Memo.antt.
use Rattle.std.specs.Prelude.{◌≡◌, Bool, ◌⊎◌, eqb, length}
use Rattle.std.proofs.Math.Path.{refl}
use Rattle.std.proofs.Common.{sym, ◌∙◌, inl, inr, eqb-true}
use Rattle.std.proofs.Math.Bool.{true, false}
use Rattle.std.proofs.lemmas.Bool.{false≢true}
use mathlib.Core.List.{List, [], ◌∷◌, Memᴰ}
use Prim.Native.Nat.{ℕ, zero, suc, ◌+◌, ◌-◌, ◌*◌, ◌<◌, ◌≤◌}
use native.Mathlib.Omega.{arith}
use Rattle.rules.specs.Basics.{choose}
use Rattle.jobset.specs.declared.Set.{Set}
use Rattle.jobset.specs.Sets.{empty, is_subset}
use Rattle.jobset.specs.Inclusion.{empty-subset}
use Rattle.jobset.specs.Tests.{or-true-iff}
use Rattle.bitmap.specs.Marks.{is_marked, with_mark, cleared}
use Rattle.bitmap.specs.Laws.{length-with_mark, marked-with_mark, length-cleared, marked-cleared}
use Rattle.places.specs.Tables.{Tables}
use Rattle.places.specs.Slot.{tries_at}
use Rattle.places.specs.Model.{Plan, no_plan, slot_then, Tries, try_all, done_after, find, key}
use Rattle.places.proofs.Slot.{tries-held}
use Rattle.places.specs.Memo.{Explored, at_once, hit, miss_then, opening, explore_all, explored, Rows, Reached, Same, key-slot, base-le, key-injective, TriesHeld, reached-next, empty-all}

-- ---- the states that a search reaches, and their keys

-- what holds of one state with a key holds of every state with it
one_state : (P : ℕ → ℕ → Set → Set → Type 0) (left s left' s' : ℕ) (d r e q : Set) → Same left s left' s' d r e q → P left' s' e q → P left s d r
one_state P left s left' s' d r e q z p = rw (z.slot, z.slots-left, z.done, z.ran) p

pub tries-are-held : (A : Tables) (cap slots : ℕ) → TriesHeld A (tries_at A cap) slots
tries-are-held A cap slots s h = tries-held A cap s

-- ---- the bitmap changes nothing

module _ (A : Tables) (base : ℕ → ℕ) (tries : Tries) (slots : ℕ) (rows : Rows A base slots) (small : TriesHeld A tries slots) where
  -- a bitmap with room for the keys of all slots, in which only states without a plan are marked
  pub record Sound (dead : List ℕ) : Type 0 where
    pub room : base slots ≤ 8 * length dead
    pub no-plan : (left s : ℕ) (done ran : Set) → 0 < left → Reached A slots left s done ran → is_marked dead (key base s done ran) ≡ true
        → find A tries left s done ran ≡ no_plan

  -- an answer of the model with a bitmap that is the model's answer, and the bitmap sound
  pub record Agrees (e : Explored) (plan : Plan) : Type 0 where
    pub same : e.plan ≡ plan
    pub sound : Sound e.dead

  -- a row that is searched ends before the last
  last : (left s : ℕ) → 0 < left → left + s ≡ slots → base (suc s) ≤ base slots
  last left s p e = let z : slots - suc s + suc s ≡ slots = omega arith in rw z at (base-le A base slots rows (slots - suc s) (suc s) (omega arith))

  key-room : (left s : ℕ) (done ran : Set) (dead : List ℕ) → 0 < left → Reached A slots left s done ran → base slots ≤ 8 * length dead
      → key base s done ran < 8 * length dead
  key-room left s done ran dead p R h = omega (arith, key-slot A base slots rows left s done ran p R, last left s p R.total)

  -- a state without a plan is marked
  sound-mark : (left s : ℕ) (done ran : Set) (dead : List ℕ) → 0 < left → Reached A slots left s done ran → find A tries left s done ran ≡ no_plan → Sound dead
      → Sound (with_mark dead (key base s done ran))
  sound-mark left s done ran dead p R f S = record {
    room = rw (length-with_mark dead (key base s done ran)) S.room;
    no-plan = λ left' s' d r q B m. go left' s' d r q B ((or-true-iff (is_marked dead (key base s' d r)) (eqb (key base s' d r) (key base s done ran))).0
        (sym (marked-with_mark dead (key base s done ran) (key base s' d r) (key-room left s done ran dead p R S.room)) ∙ m));
  }
    where
      go : (left' s' : ℕ) (d r : Set) → 0 < left' → Reached A slots left' s' d r → (is_marked dead (key base s' d r) ≡ true)
          ⊎ (eqb (key base s' d r) (key base s done ran) ≡ true) → find A tries left' s' d r ≡ no_plan
      go left' s' d r q B (inl m) = S.no-plan left' s' d r q B m
      go left' s' d r q B (inr m) =
          one_state (λ n z x y. find A tries n z x y ≡ no_plan) left' s' left s d r done ran
          (key-injective A base slots rows left' s' left s d r done ran q p B R (eqb-true (key base s' d r) (key base s done ran) m)) f

  -- the tries, where each is right
  all-agree : (goes : Set → List ℕ → Explored) (finds : Set → Plan) (Ss : List Set)
      → ((S : Set) (dead : List ℕ) → Memᴰ S Ss → Sound dead → Agrees (goes S dead) (finds S))
      → (dead : List ℕ) → Sound dead → Agrees (explore_all goes Ss dead) (try_all finds Ss)
  unfolding explore_all try_all choose hit miss_then
  all-agree goes finds [] h dead S = record { same = refl; sound = S }
  all-agree goes finds (X ∷ Ss) h dead S = rw (← r.same)
      (pick e.plan.ok (all-agree goes finds Ss (λ Y b m. h Y b (Memᴰ.tail m)) e.dead r.sound))
    where
      e : Explored
      e = goes X dead

      r : Agrees e (finds X)
      r = h X dead (Memᴰ.head refl) S

      pick : (o : Bool) → Agrees (explore_all goes Ss e.dead) (try_all finds Ss)
          → Agrees (choose o (hit X e) (miss_then e (explore_all goes Ss e.dead))) (choose o (slot_then X e.plan) (try_all finds Ss))
      pick true t = record { same = refl; sound = r.sound }
      pick false t = record { same = t.same; sound = t.sound }

  -- the model with a sound bitmap gives what the model without gives, and leaves a sound bitmap
  pub explored-is-find : (left s : ℕ) (done ran : Set) (dead : List ℕ) → Reached A slots left s done ran → Sound dead
      → Agrees (explored A base tries left s done ran dead) (find A tries left s done ran)
  unfolding explored find choose opening
  explored-is-find zero s done ran dead R S = record { same = refl; sound = S }
  explored-is-find (suc k) s done ran dead R S =
      cases (is_subset (A.due s) done) refl (is_marked dead (key base s done ran)) refl
      (all-agree goes (λ X. find A tries k (suc s) (done_after A s done X) X) (tries s done ran)
      (λ X b m T. explored-is-find k (suc s) (done_after A s done X) X b
      (reached-next A base slots rows k s done ran X R (small s (omega (arith, R.total)) done ran X m)) T) dead S)
    where
      goes : Set → List ℕ → Explored
      goes X b = explored A base tries k (suc s) (done_after A s done X) X b

      tried : Explored
      tried = explore_all goes (tries s done ran) dead

      found : Plan
      found = try_all (λ X. find A tries k (suc s) (done_after A s done X) X) (tries s done ran)

      -- a state that is opened: marked where it has no plan
      opened : find A tries (suc k) s done ran ≡ found → Agrees tried found → Agrees (opening (key base s done ran) tried) found
      opened ef r = record { same = r.same; sound = go tried.plan.ok refl }
        where
          go : (o : Bool) → tried.plan.ok ≡ o → Sound (choose o tried.dead (with_mark tried.dead (key base s done ran)))
          go true e = r.sound
          go false e = sound-mark (suc k) s done ran tried.dead (omega arith) R (ef ∙ sym r.same ∙ empty-all goes (tries s done ran) dead e) r.sound

      cases : (u : Bool) → is_subset (A.due s) done ≡ u → (m : Bool) → is_marked dead (key base s done ran) ≡ m → Agrees tried found
          → Agrees (choose u (choose m (at_once no_plan dead) (opening (key base s done ran) tried)) (at_once no_plan dead)) (choose u found no_plan)
      cases false eu m em r = record { same = refl; sound = S }
      cases true eu true em r = record { same = sym (rw eu at (S.no-plan (suc k) s done ran (omega arith) R em)); sound = S }
      cases true eu false em r = opened (rw eu) r

  -- ---- one length, from its first slot on, with the bitmap cleared

  reached-start : Reached A slots slots 0 empty empty
  reached-start = record { total = omega arith; of-slot = empty-subset empty; included = empty-subset empty }

  sound-cleared : (n : ℕ) (dead : List ℕ) → n ≤ length dead → base slots ≤ 8 * n → Sound (cleared n dead)
  sound-cleared n dead l h = record {
    room = rw (length-cleared n dead l) (omega arith);
    no-plan = λ left s done ran p R m. absurd
        (false≢true (sym (marked-cleared n dead (key base s done ran) (omega (arith, key-slot A base slots rows left s done ran p R, last left s p R.total)))
        ∙ m));
  }

  -- the search of one length gives its plan, whatever the bitmap held before it was cleared
  pub cleared-is-find : (n : ℕ) (dead : List ℕ) → n ≤ length dead → base slots ≤ 8 * n
      → (explored A base tries slots 0 empty empty (cleared n dead)).plan ≡ find A tries slots 0 empty empty
  cleared-is-find n dead l h = (explored-is-find slots 0 empty empty (cleared n dead) reached-start (sound-cleared n dead l h)).same
