-- How the outcome of a reading at a place is made of the outcomes of its parts.
use Prim.Native.Nat.{ℕ, suc, ◌+◌, ◌-◌, ◌≤◌, ◌<◌}
use Rattle.std.specs.Prelude.{Option, Ok, Err}
use mathlib.Core.Path.{◌≡◌, refl, sym, ap, ◌∙◌}
use mathlib.Core.List.{List, [], ◌∷◌, ◌++◌, append-nil, map, map-append}
use native.Mathlib.Nat.{add-zero}
use native.Mathlib.Numerals.{add-one}
use native.Mathlib.Omega.{arith}
use borrow.Author.Tests.{eq-eqb, ne_eqb}
use lib.Dec.{eqb}
use lib.ListN.{length, get_or, set, drop, length-drop, length-append, length-map}
use lib.Seq.{sets}
use Rattle.laws.proofs.Sets.{sets_append}
use Rattle.tokens.specs.Symbol.{Symbol}
use Rattle.tokens.specs.Kinds.{last_word_kind}
use Rattle.tokens.specs.Held.{held_row}
use Rattle.tokens.proofs.Holding.{held_length}
use Rattle.drafts.specs.Drafts.{Draft, draft}
use Rattle.grammar.specs.Look.{next, rest, byte_of}
use Rattle.grammar.specs.Parser.{End, got, bad, Res, give, stop, tell, onward, bind, when, need}
use Rattle.grammar.specs.declared.Misread.{Misread}
use Rattle.grammar.specs.Contract.{Ended, stopped_by, Needs}
use Rattle.grammar.specs.Contract.{ParseOutcome, parse_outcome, wrote, op_drafts, Puts, PutsOp, part_done, part_stopped}
use Rattle.grammar.specs.Contract.{part_of, part_wrote, Meets}
use Rattle.grammar.proofs.Clauses.{rest_at, left_at}
use Rattle.grammar.proofs.Room.{Fits, FitsEnd}
use Rattle.grammar.proofs.Seen.{token_at_holds, mark_test}

-- what is written in two parts
wrote_append : {R : Type 0} (r : R) (o o' : List Draft) (p : ℕ) (l u : List ℕ) → wrote r (o ++ o') p l u
    ≡ wrote r o' (p + length o) (sets l p (map (λ (x : Draft). x.kind) o)) (sets u p (map (λ (x : Draft). x.arg) o))
unfolding wrote
wrote_append r o o' p l u = simp (map-append, sets_append, length-map)

-- one draft
wrote_one : {R : Type 0} (r : R) (k a : ℕ) (o : List Draft) (p : ℕ) (l u : List ℕ)
    → wrote r (draft k a ∷ o) p l u ≡ wrote r o (p + 1) (set l p k) (set u p a)
unfolding wrote
wrote_one r k a o p l u = simp (add-one)

-- ---- what a part that ends tells

-- one that is done has read up to the place j, with drafts up to q, at most one for each token
pub record Went {A : Type 0} (row : List Symbol) (x : Res A) (i p : ℕ) (l u : List ℕ) (j q : ℕ)
    (l₁ u₁ : List ℕ) : Type 0 where
  pub what : A
  pub ends : x.end ≡ got what (drop j row)
  pub on : i ≤ j
  pub inside : j ≤ length row
  pub few : q + i ≤ p + j
  pub up : q ≡ p + length x.out
  pub kinds : l₁ ≡ sets l p (map (λ (d : Draft). d.kind) x.out)
  pub args : u₁ ≡ sets u p (map (λ (d : Draft). d.arg) x.out)

pub went : {A : Type 0} (row : List Symbol) (x : Res A) (i p : ℕ) (l u : List ℕ) (j q : ℕ) (l₁ u₁ : List ℕ)
    → i ≤ length row → Fits (drop i row) 0 0 x
    → parse_outcome (part_done j q) l₁ u₁ ≡ part_wrote (length row) x p l u → Went row x i p l u j q l₁ u₁
unfolding wrote
went {A} row x i p l u j q l₁ u₁ le f h = go x.end refl f.ends h
  where
    go : (t : End A) → x.end ≡ t → FitsEnd (drop i row) 0 0 (length x.out) t
        → parse_outcome (part_done j q) l₁ u₁ ≡ wrote (part_of (length row) (p + length x.out) t) x.out p l u
        → Went row x i p l u j q l₁ u₁
    go (got e t) s r h =
        let a = length-append r.0 t in
        let b = ap length r.1 in
        let c = length-drop i row in
        let m : j ≡ length row - length t = ap (λ (z : ParseOutcome Ended). z.reply.next) h in
        let n : q ≡ p + length x.out = ap (λ (z : ParseOutcome Ended). z.reply.place) h in
        let z : t ≡ drop j row = left_at row r.0 t i le r.1 ∙ ap (λ (k : ℕ). drop k row) (sym m) in
        record {
          what = e;
          ends = s ∙ ap (got e) z;
          on = omega arith;
          inside = omega arith;
          few = omega arith;
          up = n;
          kinds = ap (λ (z : ParseOutcome Ended). z.kinds) h;
          args = ap (λ (z : ParseOutcome Ended). z.args) h;
        }
    go (bad c t) s r h = let a = ap (λ (z : ParseOutcome Ended). z.reply.code) h in absurd (omega (arith, r.3))

-- ---- one reading after another, from place to place

-- the place where a part of the row begins
pub place_is : (ks us : List ℕ) (i : ℕ) → length us ≡ length ks → i ≤ length ks
    → length ks - length (drop i (held_row ks us)) ≡ i
place_is ks us i q le = let a = length-drop i (held_row ks us) in let b = held_length ks us q in omega arith

-- a test of the mark that stands there
mark_at : (ks us : List ℕ) (i b : ℕ) → length us ≡ length ks → last_word_kind < b
    → eqb (byte_of (next (drop i (held_row ks us)))) b ≡ eqb (get_or ks i 0) b
mark_at ks us i b even h =
    ap (λ (t : Symbol). eqb (byte_of t) b) (token_at_holds ks us i even) ∙ mark_test (get_or ks i 0) (get_or us i 0) b h

-- where the one is done, the other's outcome is that of both
pub bind_wrote : {A B : Type 0} (n : ℕ) (x : Res A) (k : A → List Symbol → Res B) (e : A) (t : List Symbol) (p q : ℕ)
    (l u l₁ u₁ : List ℕ)
    → x.end ≡ got e t → q ≡ p + length x.out
    → l₁ ≡ sets l p (map (λ (d : Draft). d.kind) x.out) → u₁ ≡ sets u p (map (λ (d : Draft). d.arg) x.out)
    → part_wrote n (k e t) q l₁ u₁ ≡ part_wrote n (bind x k) p l u
unfolding bind
bind_wrote n x k e t p q l u l₁ u₁ h up a b =
    let z = k e t in
    let m : q + length z.out ≡ p + length (x.out ++ z.out) = let c = length-append x.out z.out in
    omega arith in
    rw (h, m, a, b, up) (sym (wrote_append _ x.out z.out p l u))

-- where the one stops, so do both
stop_wrote : {A B : Type 0} (n : ℕ) (x : Res A) (k : A → List Symbol → Res B) (r : Ended) (p : ℕ) (l u l₁ u₁ : List ℕ)
    → (r.code ≡ 0 → ⊥)
    → parse_outcome r l₁ u₁ ≡ part_wrote n x p l u → parse_outcome r l₁ u₁ ≡ part_wrote n (bind x k) p l u
unfolding bind wrote
stop_wrote {A} n x k r p l u l₁ u₁ z h = go x.end h
  where
    go : (t : End A) → parse_outcome r l₁ u₁ ≡ wrote (part_of n (p + length x.out) t) x.out p l u
        → parse_outcome r l₁ u₁ ≡ part_wrote n (onward x.out t k) p l u
    go (got e t) h = absurd (z (ap (λ (y : ParseOutcome Ended). y.reply.code) h))
    go (bad d t) h = h

-- and nothing read after it
map_wrote : {A B : Type 0} (n : ℕ) (x : Res A) (g : A → B) (p : ℕ) (l u : List ℕ)
    → part_wrote n x p l u ≡ part_wrote n (bind x λ e t. give (g e) t) p l u
unfolding bind
map_wrote {A} n x g p l u = go x.end
  where
    go : (t : End A) → wrote (part_of n (p + length x.out) t) x.out p l u
        ≡ part_wrote n (onward x.out t λ e t. give (g e) t) p l u
    go (got e t) = rw append-nil
    go (bad d t) = refl

module _ {ks us : List ℕ} where
  -- a reader that reads at j what x reads at i
  pub meets_by : {A : Type 0} {i j p : ℕ} {l u : List ℕ} {r : Ended} {l₁ u₁ : List ℕ} {x : List Symbol → Res A}
      (y : List Symbol → Res A)
      → y (drop j (held_row ks us)) ≡ x (drop i (held_row ks us)) → Meets ks us x i p l u r l₁ u₁
      → Meets ks us y j p l u r l₁ u₁
  meets_by y e h = record { same = rw e h.same }

  -- behind a token
  pub meets_rest : {A : Type 0} {i p : ℕ} {l u : List ℕ} {r : Ended} {l₁ u₁ : List ℕ} {x : List Symbol → Res A}
      → Meets ks us x (i + 1) p l u r l₁ u₁ → Meets ks us (λ s. x (rest s)) i p l u r l₁ u₁
  meets_rest {i = i} {x = x} h = meets_by (λ s. x (rest s)) (ap x (rest_at (held_row ks us) i)) h

  -- nothing read: it is done, or stops
  pub meets_give : {A : Type 0} {i p : ℕ} {l u : List ℕ} → length us ≡ length ks → i ≤ length ks → (e : A)
      → Meets ks us (give e) i p l u (part_done i p) l u
  unfolding wrote
  meets_give {i = i} q le e = record { same = rw (place_is ks us i q le, add-zero) }

  pub meets_stop : {A : Type 0} {i p : ℕ} {l u : List ℕ} → length us ≡ length ks → i ≤ length ks → (c : ℕ)
      → Meets {A = A} ks us (stop c) i p l u (part_stopped c i) l u
  unfolding wrote
  meets_stop {i = i} q le c = record { same = rw (place_is ks us i q le) }

  -- behind one draft
  pub meets_tell : {A : Type 0} {i p p₁ : ℕ} {l u : List ℕ} {r : Ended} {l₁ u₁ l₂ u₂ : List ℕ} {x : List Symbol → Res A}
      {k a : ℕ}
      → Puts k a p l u p₁ l₁ u₁ → Meets ks us x i p₁ l₁ u₁ r l₂ u₂
      → Meets ks us (λ s. tell (draft k a ∷ []) (x s)) i p l u r l₂ u₂
  meets_tell {i = i} {p = p} {p₁ = p₁} {l = l} {u = u} {x = x} {k = k} {a = a} w h =
      let y = x (drop i (held_row ks us)) in
      let e = w.place in
      let n : p + suc (length y.out) ≡ p₁ + length y.out = omega arith in
      record { same = rw (n, wrote_one _ k a y.out p l u, ← w.kinds, ← w.args, ← e) h.same }

  -- behind the draft of an operator
  pub meets_op : {A : Type 0} {i p q : ℕ} {l u : List ℕ} {r : Ended} {l₁ u₁ l₂ u₂ : List ℕ} {x : List Symbol → Res A}
      {k : Option ℕ}
      → PutsOp k p l u q l₁ u₁ → Meets ks us x i q l₁ u₁ r l₂ u₂
      → Meets ks us (λ s. tell (op_drafts k) (x s)) i p l u r l₂ u₂
  unfolding bind
  meets_op {i = i} {p = p} {q = q} {l = l} {u = u} {l₁ = l₁} {u₁ = u₁} {x = x} {k = k} w h =
      let row = drop i (held_row ks us) in
      let y : Res (List Symbol) = record { out = op_drafts k; end = got row row } in
      record {
        same = h.same
            ∙ bind_wrote (length ks) y (λ _ _. x row) row row p q l u l₁ u₁ refl w.place w.kinds w.args;
      }

  -- a part that stops stops the whole
  pub meets_bad : {A B : Type 0} {i p : ℕ} {l u : List ℕ} {r : Ended} {l₁ u₁ : List ℕ} {x : List Symbol → Res A}
      (k : A → List Symbol → Res B)
      → (r.code ≡ 0 → ⊥) → Meets ks us x i p l u r l₁ u₁ → Meets ks us (λ s. bind (x s) k) i p l u r l₁ u₁
  meets_bad {i = i} {p = p} {l = l} {u = u} {r = r} {l₁ = l₁} {u₁ = u₁} {x = x} k z h =
      record { same = stop_wrote (length ks) (x (drop i (held_row ks us))) k r p l u l₁ u₁ z h.same }

  -- one part is done, and the other goes on from there
  pub meets_bind : {A B : Type 0} {i p j q : ℕ} {l u : List ℕ} {r : Ended} {l₁ u₁ l₂ u₂ : List ℕ}
      {x : List Symbol → Res A} (k : A → List Symbol → Res B)
      → Fits (drop i (held_row ks us)) 0 0 (x (drop i (held_row ks us))) → length us ≡ length ks → i ≤ length ks
      → Meets ks us x i p l u (part_done j q) l₁ u₁
      → ((e : A) → (x (drop i (held_row ks us))).end ≡ got e (drop j (held_row ks us))
      → Meets ks us (k e) j q l₁ u₁ r l₂ u₂)
      → Meets ks us (λ s. bind (x s) k) i p l u r l₂ u₂
  meets_bind {i = i} {p = p} {j = j} {q = q} {l = l} {u = u} {l₁ = l₁} {u₁ = u₁} {x = x} k f even le h g =
      let row = held_row ks us in
      let n = held_length ks us even in
      let y = x (drop i row) in
      let w = went row y i p l u j q l₁ u₁ (omega arith) f (rw (← n) at h.same) in
      let z = bind_wrote (length ks) y k w.what (drop j row) p q l u l₁ u₁ w.ends w.up w.kinds w.args in
      record {
        same = ◌∙◌ {b = part_wrote (length ks) (k w.what (drop j row)) q l₁ u₁}
            (g w.what w.ends).same z;
      }

  -- and nothing read after it
  pub meets_map : {A B : Type 0} {i p : ℕ} {l u : List ℕ} {r : Ended} {l₁ u₁ : List ℕ} {x : List Symbol → Res A}
      (g : A → B)
      → Meets ks us x i p l u r l₁ u₁ → Meets ks us (λ s. bind (x s) λ e t. give (g e) t) i p l u r l₁ u₁
  meets_map {i = i} {p = p} {l = l} {u = u} {x = x} g h =
      record { same = h.same ∙ map_wrote (length ks) (x (drop i (held_row ks us))) g p l u }

  -- at a mark, or else
  pub meets_mark : {A : Type 0} {i p : ℕ} {l u : List ℕ} {r : Ended} {l₁ u₁ : List ℕ} {x : List Symbol → Res A}
      (y : List Symbol → Res A) (b : ℕ)
      → length us ≡ length ks → last_word_kind < b → get_or ks i 0 ≡ b → Meets ks us x i p l u r l₁ u₁
      → Meets ks us (λ s. when (eqb (byte_of (next s)) b) (λ _. x s) (λ _. y s)) i p l u r l₁ u₁
  meets_mark {i = i} {x = x} y b even h e g =
      meets_by (λ s. when (eqb (byte_of (next s)) b) (λ _. x s) (λ _. y s))
      (rw (mark_at ks us i b even h ∙ eq-eqb (get_or ks i 0) b e)) g

  pub meets_else : {A : Type 0} {i p : ℕ} {l u : List ℕ} {r : Ended} {l₁ u₁ : List ℕ} {y : List Symbol → Res A}
      (x : List Symbol → Res A) (b : ℕ)
      → length us ≡ length ks → last_word_kind < b → (get_or ks i 0 ≡ b → ⊥) → Meets ks us y i p l u r l₁ u₁
      → Meets ks us (λ s. when (eqb (byte_of (next s)) b) (λ _. x s) (λ _. y s)) i p l u r l₁ u₁
  meets_else {i = i} {y = y} x b even h e g =
      meets_by (λ s. when (eqb (byte_of (next s)) b) (λ _. x s) (λ _. y s))
      (rw (mark_at ks us i b even h ∙ ne_eqb (get_or ks i 0) b e)) g

  -- behind a mark that must stand next, or a stop
  pub meets_need : {A : Type 0} {i j p : ℕ} {l u : List ℕ} {r : Ended} {l₁ u₁ : List ℕ} {k : List Symbol → Res A}
      (b : ℕ)
      → length us ≡ length ks → last_word_kind < b → Needs ks i b (Ok j) → Meets ks us k j p l u r l₁ u₁
      → Meets ks us (λ s. need b s k) i p l u r l₁ u₁
  meets_need b even h n g = meets_mark (stop 18) b even h n.0 (meets_rest (rw n.1 at g))

  pub meets_shut : {A : Type 0} {i p : ℕ} {l u : List ℕ} {m : Misread} (k : List Symbol → Res A) (b : ℕ)
      → length us ≡ length ks → i ≤ length ks → last_word_kind < b → Needs ks i b (Err m)
      → Meets ks us (λ s. need b s k) i p l u (stopped_by m) l u
  meets_shut k b even le h n = rw n.1 (meets_else (λ s. k (rest s)) b even h n.0 (meets_stop even le 18))
