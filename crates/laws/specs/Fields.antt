-- Answers, fields of a file, and reading them one after the other. Assumes nothing.
use Rattle.std.specs.Prelude.{◌≡◌, ◌↔◌, Bool, List, drop, T, ltb}
use Rattle.std.proofs.Math.Path.{refl, ap, subst}
use Rattle.std.proofs.Common.{sym, arith, lt-ltb, le-ltb, length-take, length-drop}
use Rattle.std.proofs.Math.Bool.{true, false}
use Prim.Native.Nat.{ℕ, zero, suc, ◌+◌, ◌-◌, ◌≤◌, ◌<◌}
use Rattle.std.proofs.Math.ListN.{length}
use Rattle.rules.specs.Basics.{choose}
use Rattle.rules.specs.Fields.{Answer, refused, got, number_of, ask, after, part, field, field_end, value, whole, over_fields}
use Rattle.rules.specs.Numbers.{Bytes}
use Rattle.laws.specs.Tests.{tests}
use Rattle.laws.specs.Numbers.{bytes_take, bytes_drop, word_split}

-- ---- answers

-- answers that are not refusals are the same where what they give is
pub got_same : {A : Type 0} (a b : A) → got a ≡ got b → a ≡ b
got_same a b e = cc

-- where an answer is not a refusal, the question before it was answered yes
pub ask-got : {A : Type 0} (b : Bool) (q : ℕ) (r : Answer A) (a : A) → ask b q r ≡ got a → T b × (r ≡ got a)
unfolding ask
ask-got true q r a e = (tt, e)
ask-got false q r a e = absurd (let z : ◌≡◌ {A = ℕ} 0 1 = cc in omega arith)

pub after-got : {A B : Type 0} (r : Answer A) (f : A → Answer B) (b : B) → after r f ≡ got b → (a : A) × (r ≡ got a) × (f a ≡ got b)
unfolding after
after-got (refused q) f b e = absurd (let z : ◌≡◌ {A = ℕ} 0 1 = cc in omega arith)
after-got (got a) f b e = (a, refl, e)

-- what follows an answer is the same, where it is the same for what was got
pub after_same : {A B : Type 0} (r : Answer A) (f g : A → Answer B) → ((a : A) → r ≡ got a → f a ≡ g a) → after r f ≡ after r g
unfolding after
after_same (refused q) f g h = refl
after_same (got a) f g h = h a refl

pub ask-yes : {A : Type 0} (b : Bool) (q : ℕ) (r : Answer A) → T b → ask b q r ≡ r
unfolding ask
ask-yes true q r t = refl
ask-yes {A = A} false q r t = elim t [ ]

pub ask-no : {A : Type 0} (b : Bool) (q : ℕ) (r : Answer A) → (T b → ⊥) → ask b q r ≡ refused q
unfolding ask
ask-no true q r n = absurd (n tt)
ask-no false q r n = refl

-- an answer with a number that is not 0 is the refusal by it
pub number-refused : {A : Type 0} (r : Answer A) (q : ℕ) → q ≡ number_of r → (q ≡ 0 → ⊥) → r ≡ refused q
unfolding number_of
number-refused (refused p) q e n = ap refused (sym e)
number-refused (got a) q e n = absurd (n e)

-- ---- two answers side by side

module _ {A : Type 0} (R : A → A → Type 0) where
  -- r is no refusal, and what it gives stands beside u: they have the relation R
  abbrev pub GotBeside : A → Answer A → Type 0
  GotBeside u r = (v : A) × (r ≡ got v) × R u v

  -- nothing more is asked of either
  pub got-beside : {u : A} (s t : A) → R s t → got s ≡ got u → GotBeside u (got t)
  got-beside {u} s t r e = (t, refl, subst (λ (x : A). R x t) (got_same s u e) r)

  -- a question of both, that the second answers yes where the first does
  pub ask-beside : {u : A} (a b : Bool) (q : ℕ) {r s : Answer A} → (T a → T b) → (r ≡ got u → GotBeside u s) → ask a q r ≡ got u → GotBeside u (ask b q s)
  unfolding ask
  ask-beside {u} a true q {r} t h e = h (ask-got a q r u e).1
  ask-beside {u} a false q {r} t h e = absurd (t (ask-got a q r u e).0)

  -- a choice in both, by the same test
  pub choose-beside : {u : A} (b : Bool) {r r' s s' : Answer A} → (T b → r ≡ got u → GotBeside u s) → (r' ≡ got u → GotBeside u s')
      → choose b r r' ≡ got u → GotBeside u (choose b s s')
  unfolding choose
  choose-beside true h h' e = h tt e
  choose-beside false h h' e = h' e

  -- an answer and what follows it, in both
  pub after-beside : {u : A} (r s : Answer A) (f g : A → Answer A) → ((x : A) → r ≡ got x → GotBeside x s)
      → ((x y : A) → R x y → f x ≡ got u → GotBeside u (g y)) → after r f ≡ got u → GotBeside u (after s g)
  unfolding after
  after-beside {u} r s f g h next e =
      let w = after-got r f u e in
      let y = h w.0 w.1 in
      rw y.1 (next w.0 y.0 y.2 w.2)

-- ---- one field

pub whole_is : (bs : List ℕ) (a : ℕ) → T (whole bs a) ↔ ((a + 3 ≤ length bs) × (field_end bs a ≤ length bs))
unfolding whole
whole_is bs a = (λ h. simp tests at h, λ h. simp tests h)

pub after-head : (bs : List ℕ) (a : ℕ) → a + 3 ≤ field_end bs a
unfolding field_end
after-head bs a = omega arith

pub length-value : (bs : List ℕ) (a : ℕ) → T (whole bs a) → length (value bs a) ≡ field_end bs a - (a + 3)
unfolding value part
length-value bs a h = let w = (whole_is bs a).0 h in simp (length-take, length-drop) (omega arith)

pub bytes-value : (bs : List ℕ) (a : ℕ) → Bytes bs → Bytes (value bs a)
unfolding value part
bytes-value bs a h = bytes_take (field_end bs a - (a + 3)) (drop (a + 3) bs) (bytes_drop (a + 3) bs h)

-- a field is a byte string where its tag is a byte and its value a byte string
pub bytes-field : (tag : ℕ) (v : List ℕ) → tag < 256 → length v < 65536 → Bytes v → Bytes (field tag v)
unfolding field
bytes-field tag v t short b = let w = word_split (length v) short in (t, (w.1, (w.2, b)))

-- ---- all fields

module _ {A : Type 0} (step : A → ℕ → Answer A) where
  -- the field at a, and what follows it
  pub over_fields-step : (k : ℕ) (bs : List ℕ) (a : ℕ) (s : A) → a < length bs → length bs - a ≤ k
      → (j : ℕ) × (length bs - field_end bs a ≤ j) × (over_fields step k bs a s ≡ after (step s a) (λ t. over_fields step j bs (field_end bs a) t))
  unfolding over_fields choose
  over_fields-step zero bs a s h l = absurd (omega arith)
  over_fields-step (suc k) bs a s h l = (k, omega (arith, after-head bs a), simp (lt-ltb a (length bs) h))

  pub over_fields-end : (k : ℕ) (bs : List ℕ) (a : ℕ) (s : A) → length bs ≤ a → over_fields step k bs a s ≡ got s
  unfolding over_fields choose
  over_fields-end zero bs a s h = refl
  over_fields-end (suc k) bs a s h = simp (le-ltb a (length bs) h)

  -- the bound on the number of fields is never met
  pub over_fields-enough : (k : ℕ) (bs : List ℕ) (a : ℕ) (s : A) → length bs - a ≤ k → over_fields step (suc k) bs a s ≡ over_fields step k bs a s
  unfolding over_fields choose after
  over_fields-enough zero bs a s l = simp (le-ltb a (length bs) (omega arith))
  over_fields-enough (suc k) bs a s l = go (step s a) (λ t. over_fields-enough k bs (field_end bs a) t)
    where
      go : (r : Answer A) → ((t : A) → length bs - field_end bs a ≤ k → over_fields step (suc k) bs (field_end bs a) t ≡ over_fields step k bs (field_end bs a) t)
          → choose (ltb a (length bs)) (after r (λ t. over_fields step (suc k) bs (field_end bs a) t)) (got s)
          ≡ choose (ltb a (length bs)) (after r (λ t. over_fields step k bs (field_end bs a) t)) (got s)
      go (refused q) f = refl
      go (got t) f = ap (λ (r : Answer A). choose (ltb a (length bs)) r (got s)) (f t (omega (arith, after-head bs a)))

  -- what each field keeps, with the offset behind it, all of them keep
  pub over_fields-keeps-at : (P : ℕ → A → Type 0) (bs : List ℕ) → ((s t : A) (a : ℕ) → P a s → step s a ≡ got t → P (field_end bs a) t)
      → (k a : ℕ) (s t : A) → P a s → over_fields step k bs a s ≡ got t → (e : ℕ) × P e t
  unfolding over_fields choose
  over_fields-keeps-at P bs keeps zero a s t p e = let q : s ≡ t = cc in (a, subst (P a) q p)
  over_fields-keeps-at P bs keeps (suc k) a s t p e = go (ltb a (length bs)) e (λ u q. over_fields-keeps-at P bs keeps k (field_end bs a) u t q)
    where
      rest : A → Answer A
      rest = over_fields step k bs (field_end bs a)

      go : (b : Bool) → choose b (after (step s a) rest) (got s) ≡ got t → ((u : A) → P (field_end bs a) u → rest u ≡ got t → (e : ℕ) × P e t) → (e : ℕ) × P e t
      go true e r = let w = after-got (step s a) rest t e in r w.0 (keeps s w.0 a p w.1) w.2
      go false e r = let q : s ≡ t = cc in (a, subst (P a) q p)

  pub over_fields-keeps : (P : A → Type 0) → ((s t : A) (a : ℕ) → P s → step s a ≡ got t → P t)
      → (k : ℕ) (bs : List ℕ) (a : ℕ) (s t : A) → P s → over_fields step k bs a s ≡ got t → P t
  over_fields-keeps P keeps k bs a s t p e = (over_fields-keeps-at (λ _. P) bs keeps k a s t p e).1
