-- A turn of the loop over the fields: what the field reader and the readers of its value answer, and what is still to come. Assumes nothing.
-- Its definitions: specs/FieldByField.antt.
use Rattle.std.specs.Prelude.{◌≡◌, Bool, true, false, List, ℕ, ◌+◌, ◌-◌, ◌≤◌, ◌<◌, length, take, drop, eqb, ltb, Ok}
use Rattle.std.proofs.Math.Path.{refl, sym, ap}
use Rattle.std.proofs.Common.{subst, ◌∙◌, arith}
use Rattle.rules.specs.Sizes.{max_jobs}
use Rattle.rules.specs.Basics.{at}
use Rattle.rules.specs.Fields.{Answer, refused, got, ask, after, field_end, value, over_fields}
use Rattle.rules.specs.JobFile.{JobFile, content_ok, is_need, add_field, read_field}
use Rattle.laws.specs.Tests.{by-choice}
use Rattle.laws.specs.Fields.{over_fields-step}
use Rattle.refusals.specs.declared.Refusal.{Refusal}
use Rattle.refusals.specs.Refusals.{number}
use Rattle.fieldreader.specs.declared.Field.{Field}
use Rattle.fieldreader.specs.Reader.{field_at}
use Rattle.fieldreader.specs.FieldFound.{on_field, field-first, stands, value-is, bounds}
use Rattle.jobfile.specs.declared.Counts.{Counts}
use Rattle.jobfile.specs.Reading.{State, state_of, linked, take_need, take_sockets, take_field, Held, Same}
use Rattle.jobfile.proofs.Holding.{field-same}
use Rattle.jobfile.specs.FieldByField.{all_fields, ToCome, ReadTo}

-- ---- a turn of the loop: what is still to come from offset a on is what was to come at the start

module _ (bs : List ℕ) (a : ℕ) (f : JobFile) (next : ToCome bs a f) where
  module _ (h : a < length bs) where
    module _ (w : Field) (found : field_at bs a f.fields ≡ Ok w) (state : State) (held : Held bs f state) where
      -- the rules' answer and the code's are the same, and what follows is the same
      Value : Answer JobFile
      Value = ask (content_ok (at bs a) (value bs a)) 6 (add_field f (at bs a) (value bs a))

      split : (j : ℕ) × (length bs - w.end ≤ j) × (all_fields bs ≡ after Value (λ g. over_fields (read_field bs) j bs w.end g))
      unfolding on_field Value
      split =
          let p = over_fields-step (read_field bs) next.room bs a f h next.enough in
          let s = stands bs a f.fields w found in (
            p.0,
            rw s.end_is p.1,
            sym next.rest ∙ p.2
                ∙ rw s.end_is (ap (λ (r : Answer JobFile). after r (λ g. over_fields (read_field bs) p.0 bs (field_end bs a) g)) (field-first bs f a
                ∙ ap (on_field bs f a) found)),
          )

      same : Same bs Value (take_field state w.tag a (take (w.end - w.start) (drop w.start bs)))
      unfolding Value
      same = let s = stands bs a f.fields w found in rw (value-is bs a w s, s.tag_is) (field-same bs f state held (at bs a) a s.is_whole)

      value-refuses : (q : ℕ) → take_field state w.tag a (take (w.end - w.start) (drop w.start bs)) ≡ refused q → all_fields bs ≡ refused q
      unfolding Same after
      value-refuses q r = split.2 ∙ go Value (rw r at same)
        where
          go : (x : Answer JobFile) → Same bs x (refused q) → after x (λ g. over_fields (read_field bs) split.0 bs w.end g) ≡ refused q
          go (refused p) z = ap refused z
          go (got g) z = absurd z

      value_taken : (state' : State) → take_field state w.tag a (take (w.end - w.start) (drop w.start bs)) ≡ got state'
          → (g : JobFile) × Held bs g state' × ToCome bs w.end g
      unfolding Same after
      value_taken state' r = go Value (rw r at same) split.2
        where
          go : (x : Answer JobFile) → Same bs x (got state') → all_fields bs ≡ after x (λ g. over_fields (read_field bs) split.0 bs w.end g)
              → (g : JobFile) × Held bs g state' × ToCome bs w.end g
          go (refused p) z q = absurd z
          go (got g) z q = (g, z, record { room = split.0; enough = split.1; rest = sym q })

-- ---- a field that is taken is counted

unfoldable Grown : ℕ → Answer State → Type 0
Grown k (refused q) = Unit {0}
Grown k (got s) = s.fields ≡ k + 1

grown-ask : (k : ℕ) (b : Bool) (q : ℕ) (x : Answer State) → Grown k x → Grown k (ask b q x)
unfolding ask Grown
grown-ask k true q x h = h
grown-ask k false q x h = tt

grown : (s : State) (tag a : ℕ) (v : List ℕ) → Grown s.fields (take_field s tag a v)
unfolding take_field take_need take_sockets linked Grown
grown s tag a v =
    grown-ask k (content_ok tag v) 6 _
    (by-choice (Grown k) (eqb tag 2) (λ _. refl) (λ _. by-choice (Grown k) (eqb tag 3) (λ _. grown-ask k (ltb s.jobs max_jobs) 7 _ refl)
    (λ _. by-choice (Grown k) (is_need tag) (λ _. grown-ask k _ 8 _ refl)
    (λ _. by-choice (Grown k) (eqb tag 9) (λ _. grown-ask k _ 21 _ refl) (λ _. refl)))))
  where
    k : ℕ
    k = s.fields

taken-counts : (s s' : State) (tag a : ℕ) (v : List ℕ) → take_field s tag a v ≡ got s' → s'.fields ≡ s.fields + 1
unfolding Grown
taken-counts s s' tag a v e = subst (Grown s.fields) e (grown s tag a v)

module _ {bs o rows : List ℕ} {c : Counts} {a : ℕ} (r : ReadTo bs c o rows a) (h : a < length bs) where
  module _ (w : Field) (found : field_at bs a c.fields ≡ Ok w) where
    -- the file's own count of fields finds it too
    same-found : field_at bs a r.file.fields ≡ Ok w
    same-found = rw (← r.held.fields-is) found

    -- its value is refused
    pub value-same-no : (q : Refusal) → refused (number q) ≡ take_field (state_of c o rows) w.tag a (take (w.end - w.start) (drop w.start bs))
        → Same bs (all_fields bs) (refused (number q))
    unfolding Same
    value-same-no q answer =
        rw (value-refuses bs a r.file r.to-come h w same-found (state_of c o rows) r.held (number q) (sym answer)) refl

    -- its value is taken
    pub value_read : (d : Counts) (o' rows' : List ℕ)
        → got (state_of d o' rows') ≡ take_field (state_of c o rows) w.tag a (take (w.end - w.start) (drop w.start bs))
        → ReadTo bs d o' rows' w.end
    value_read d o' rows' answer =
        let q = sym answer in
        let v = value_taken bs a r.file r.to-come h w same-found (state_of c o rows) r.held (state_of d o' rows') q in
        let b = bounds bs a w (stands bs a c.fields w found) in
        let k = taken-counts (state_of c o rows) (state_of d o' rows') w.tag a (take (w.end - w.start) (drop w.start bs)) q in
        record { counted = omega (arith, r.counted); inside = b.2; file = v.0; held = v.1; to-come = v.2 }
