-- The work of one search over places: no state is opened twice, whatever the bitmap held, so no more states than marks are opened. A
-- state that led to no plan is marked and not opened again, the states after a slot have keys of later slots, and after a plan is
-- found nothing more is opened. Assumes nothing.
-- Its definitions: specs/Work.antt.
use Rattle.std.specs.Prelude.{◌≡◌, Bool, true, false, ◌⊎◌, ◌↔◌, eqb, length}
use Rattle.std.proofs.Math.Path.{refl}
use Rattle.std.proofs.Common.{sym, ◌∙◌, true≢false, inl, inr, arith, eq-eqb}
use Rattle.std.proofs.lemmas.Bool.{false≢true}
use mathlib.Core.List.Memᴰ
use mathlib.Core.List.{List, [], ◌∷◌, ◌++◌, Memᴰ}
use Prim.Native.Nat.{ℕ, zero, suc, ◌+◌, ◌*◌, ◌<◌, ◌≤◌}
use Rattle.rules.specs.Basics.{choose, range, Distinct}
use Rattle.laws.specs.Counting.{pigeonhole, range-below, length-range}
use Rattle.jobset.specs.declared.Set.{Set}
use Rattle.jobset.specs.Sets.{empty, is_subset}
use Rattle.jobset.specs.Inclusion.{empty-subset}
use Rattle.jobset.specs.Tests.{or-true-iff}
use Rattle.bitmap.specs.Marks.{is_marked, with_mark}
use Rattle.bitmap.specs.Laws.{length-with_mark, marked-with_mark}
use Rattle.places.specs.Tables.{Tables}
use Rattle.laws.specs.Counting.{distinct_append}
use Rattle.places.specs.Model.{Plan, no_plan, finished, slot_then, Tries, done_after, key}
use Rattle.places.specs.Memo.{Explored, at_once, hit, miss_then, opening, explore_all, explored, Rows, Reached, TriesHeld, key-slot, base-le, reached-next}
use Rattle.places.specs.Work.{Once}

-- an answer at once
once-none : (base : ℕ → ℕ) (from slots : ℕ) (dead : List ℕ) (plan : Plan) → Once base from slots dead (at_once plan dead)
once-none base from slots dead plan = record {
  distinct = tt;
  in-slots = λ k m. absurd (Memᴰ.not-nil m);
  unmarked = λ k m. absurd (Memᴰ.not-nil m);
  keeps = λ k m. m;
  marks = λ o k m. absurd (Memᴰ.not-nil m);
  size = refl;
}

-- a try that leads on
once-hit : (base : ℕ → ℕ) (from slots : ℕ) (dead : List ℕ) (S : Set) (e : Explored) → Once base from slots dead e → Once base from slots dead (hit S e)
unfolding hit slot_then
once-hit base from slots dead S e E = record {
  distinct = E.distinct;
  in-slots = E.in-slots;
  unmarked = E.unmarked;
  keeps = E.keeps;
  marks = λ o. absurd (true≢false o);
  size = E.size;
}

-- a try that leads to nothing, and the tries after it
once-miss : (base : ℕ → ℕ) (from slots : ℕ) (dead : List ℕ) (e rest : Explored) → e.plan.ok ≡ false → Once base from slots dead e
    → Once base from slots e.dead rest
    → Once base from slots dead (miss_then e rest)
unfolding miss_then
once-miss base from slots dead e rest o E R = record {
  distinct = distinct_append e.opened rest.opened E.distinct R.distinct (λ k m n. false≢true (sym (R.unmarked k n) ∙ E.marks o k m));
  in-slots = λ k m. either (λ k. (base from ≤ k) × (k < base slots)) E.in-slots R.in-slots k m;
  unmarked = λ k m. either (λ k. is_marked dead k ≡ false) E.unmarked (λ k n. still k (R.unmarked k n)) k m;
  keeps = λ k m. R.keeps k (E.keeps k m);
  marks = λ q k m. either (λ k. is_marked rest.dead k ≡ true) (λ k n. R.keeps k (E.marks o k n)) (R.marks q) k m;
  size = R.size ∙ E.size;
}
  where
    either : (P : ℕ → Type 0) → ((k : ℕ) → Memᴰ k e.opened → P k) → ((k : ℕ) → Memᴰ k rest.opened → P k)
        → (k : ℕ) → Memᴰ k (e.opened ++ rest.opened) → P k
    either P f g k m = go (Memᴰ.append_cases e.opened m)
      where
        go : Memᴰ k e.opened ⊎ Memᴰ k rest.opened → P k
        go (inl n) = f k n
        go (inr n) = g k n

    -- what is not marked after the try was not marked before
    still : (k : ℕ) → is_marked e.dead k ≡ false → is_marked dead k ≡ false
    still k n = go (is_marked dead k) refl
      where
        go : (b : Bool) → is_marked dead k ≡ b → b ≡ false
        go true q = absurd (false≢true (sym n ∙ E.keeps k q))
        go false q = refl

-- a state with key k is opened
once-open : (base : ℕ → ℕ) (slot slots : ℕ) (dead : List ℕ) (k : ℕ) (e : Explored) → (base slot ≤ k) × (k < base (suc slot)) → base (suc slot) ≤ base slots
    → k < 8 * length dead → is_marked dead k ≡ false
    → Once base (suc slot) slots dead e → Once base slot slots dead (opening k e)
unfolding opening choose
once-open base slot slots dead k e r l h n E = record {
  distinct = (λ m. omega (arith, E.in-slots k m), E.distinct);
  in-slots = λ j m. either (λ j. (base slot ≤ j) × (j < base slots)) (omega arith) (λ j m. omega (arith, E.in-slots j m)) j m;
  unmarked = λ j m. either (λ j. is_marked dead j ≡ false) n E.unmarked j m;
  keeps = λ j m. kept e.plan.ok j (E.keeps j m);
  marks = λ o j m. rw (o) (either (λ j. is_marked (with_mark e.dead k) j ≡ true) ((marked k).1 (inr (eq-eqb k k refl)))
      (λ j m. (marked j).1 (inl (E.marks o j m))) j m);
  size = sized e.plan.ok;
}
  where
    either : (P : ℕ → Type 0) → P k → ((j : ℕ) → Memᴰ j e.opened → P j) → (j : ℕ) → Memᴰ j (k ∷ e.opened) → P j
    either P p f j m = go (Memᴰ.cases_cons m)
      where
        go : (j ≡ k) ⊎ Memᴰ j e.opened → P j
        go (inl q) = rw (q) p
        go (inr m) = f j m

    marked : (j : ℕ) → (is_marked (with_mark e.dead k) j ≡ true) ↔ ((is_marked e.dead j ≡ true) ⊎ (eqb j k ≡ true))
    marked j = rw (marked-with_mark e.dead k j (rw E.size h)) (or-true-iff (is_marked e.dead j) (eqb j k))

    kept : (o : Bool) (j : ℕ) → is_marked e.dead j ≡ true → is_marked (choose o e.dead (with_mark e.dead k)) j ≡ true
    kept true j m = m
    kept false j m = (marked j).1 (inl m)

    sized : (o : Bool) → length (choose o e.dead (with_mark e.dead k)) ≡ length dead
    sized true = E.size
    sized false = length-with_mark e.dead k ∙ E.size

module _ (A : Tables) (base : ℕ → ℕ) (tries : Tries) (slots : ℕ) (rows : Rows A base slots) (small : TriesHeld A tries slots) where
  once-all : (goes : Set → List ℕ → Explored) (from : ℕ) (Ss : List Set)
      → ((S : Set) → Memᴰ S Ss → (dead : List ℕ) → base slots ≤ 8 * length dead → Once base from slots dead (goes S dead))
      → (dead : List ℕ) → base slots ≤ 8 * length dead → Once base from slots dead (explore_all goes Ss dead)
  unfolding explore_all choose
  once-all goes from [] h dead r = once-none base from slots dead no_plan
  once-all goes from (S ∷ Ss) h dead r = go e.plan.ok refl (h S (Memᴰ.head refl) dead r) (once-all goes from Ss (λ R m. h R (Memᴰ.tail m)))
    where
      e : Explored
      e = goes S dead

      go : (o : Bool) → e.plan.ok ≡ o → Once base from slots dead e
          → ((b : List ℕ) → base slots ≤ 8 * length b → Once base from slots b (explore_all goes Ss b))
          → Once base from slots dead (choose o (hit S e) (miss_then e (explore_all goes Ss e.dead)))
      go true q E ih = once-hit base from slots dead S e E
      go false q E ih = once-miss base from slots dead e (explore_all goes Ss e.dead) q E (ih e.dead (rw E.size r))

  -- no search opens a state twice
  pub explored-once : (left s : ℕ) (done ran : Set) (dead : List ℕ) → Reached A slots left s done ran → base slots ≤ 8 * length dead
      → Once base s slots dead (explored A base tries left s done ran dead)
  unfolding explored choose
  explored-once zero s done ran dead t r = once-none base s slots dead (choose (is_subset (A.due s) done) finished no_plan)
  explored-once (suc k) s done ran dead t r =
      go (is_subset (A.due s) done) (is_marked dead (key base s done ran)) refl
      (once-all (λ S b. explored A base tries k (suc s) (done_after A s done S) S b) (suc s) (tries s done ran)
      (λ S m b. explored-once k (suc s) (done_after A s done S) S b
      (reached-next A base slots rows k s done ran S t (small s (omega (arith, t.total)) done ran S m))) dead r)
    where
      tried : Explored
      tried = explore_all (λ S b. explored A base tries k (suc s) (done_after A s done S) S b) (tries s done ran) dead

      last : base (suc s) ≤ base slots
      last = let z : k + suc s ≡ slots = omega (arith, t.total) in rw z at (base-le A base slots rows k (suc s) (omega arith))

      go : (u m : Bool) → is_marked dead (key base s done ran) ≡ m → Once base (suc s) slots dead tried
          → Once base s slots dead (choose u (choose m (at_once no_plan dead) (opening (key base s done ran) tried)) (at_once no_plan dead))
      go false m e E = once-none base s slots dead no_plan
      go true true e E = once-none base s slots dead no_plan
      go true false e E = let w = key-slot A base slots rows (suc k) s done ran (omega arith) t in
          once-open base s slots dead (key base s done ran) tried w last (omega (arith, w, last)) e E

  -- so the search of one length opens each of its states once, and no more than its rows have marks
  pub length-once : (dead : List ℕ) → base slots ≤ 8 * length dead
      → Distinct (explored A base tries slots 0 empty empty dead).opened × (length (explored A base tries slots 0 empty empty dead).opened ≤ base slots)
  length-once dead r =
      let E = explored-once slots 0 empty empty dead (record { total = omega arith; of-slot = empty-subset empty; included = empty-subset empty }) r in
      let p = pigeonhole (explored A base tries slots 0 empty empty dead).opened (range (base slots) 0) E.distinct
      (λ k m. (range-below (base slots) k).1 (E.in-slots k m).1) in
      (E.distinct, omega (arith, p, length-range (base slots) 0))
