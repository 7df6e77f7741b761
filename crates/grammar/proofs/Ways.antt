-- A rule for each way through each function of the cycle: what its calls ask, and what it gives by what they give. In
-- all of them i is the token's place, p that of the next draft, l and u are the buffers, and t is the measure at the
-- entry.
use Prim.Native.Nat.{ℕ, ◌+◌, ◌-◌, ◌≤◌, ◌<◌}
use Rattle.std.specs.Prelude.{Option, Some, None}
use mathlib.Core.Path.{◌≡◌, refl, sym, ap, ◌∙◌}
use mathlib.Core.Bool.{Bool, true, false, cond}
use mathlib.Core.List.{List, [], ◌∷◌}
use native.Mathlib.Nat.{add-zero}
use native.Mathlib.Omega.{arith}
use borrow.Author.Tests.{ne_eqb}
use lib.Dec.{eqb}
use lib.ListN.{length, get_or, drop}
use lib.Seq.{length-sets}
use Rattle.tokens.specs.Symbol.{Symbol, mark}
use Rattle.tokens.specs.Held.{symbol_of, held_row}
use Rattle.tokens.proofs.Holding.{held_length}
use Rattle.drafts.specs.Tree.{Two, plus, Tree, time, two}
use Rattle.drafts.specs.Kinds.{kind_two}
use Rattle.drafts.specs.Kinds.{kind_negate}
use Rattle.drafts.specs.Drafts.{Draft, draft}
use Rattle.grammar.specs.Look.{next, rest, byte_of, Op, none, op, add_op, mul_op, is_minus, signed}
use Rattle.grammar.specs.Grammar.{Mode, expr, term, factor, terms, factors}
use Rattle.grammar.specs.Parser.{Res, give, tell, bind, by_op, behind_sign, sign_drafts, reads}
use Rattle.grammar.specs.Codes.{kind_op, skip_of}
use Rattle.grammar.specs.Contract.{Ended}
use Rattle.grammar.specs.Contract.{op_drafts, PutsOp, Ready, part_done, Meets, Parses}
use Rattle.grammar.proofs.Endings.{clash}
use Rattle.grammar.proofs.Clauses.{rest_at, reads_expr, reads_terms, reads_term, reads_factors}
use Rattle.grammar.proofs.Room.{Fits, reads_fits}
use Rattle.grammar.proofs.Seen.{token_at_holds, stands, add_seen, mul_seen}
use Rattle.grammar.proofs.Meets.{went, meets_by, meets_rest, meets_give, meets_op, meets_bad, meets_bind}

-- ---- a part that is done

-- it has gone from i to j and from p to q, with at most one draft for each token, and the buffers keep their lengths
pub record After (n i p : ℕ) (l u : List ℕ) (j q : ℕ) (l₁ u₁ : List ℕ) : Type 0 where
  pub on : i ≤ j
  pub inside : j ≤ n
  pub few : q + i ≤ p + j
  pub long_kinds : length l₁ ≡ length l
  pub long_args : length u₁ ≡ length u

module _ {ks us : List ℕ} {i p j q : ℕ} {l u l₁ u₁ : List ℕ} where
  -- of each reader that fits
  pub after_fits : {A : Type 0} {x : List Symbol → Res A} → Ready ks us i p l u
      → Fits (drop i (held_row ks us)) 0 0 (x (drop i (held_row ks us)))
      → Meets ks us x i p l u (part_done j q) l₁ u₁ → After (length ks) i p l u j q l₁ u₁
  after_fits {x = x} w f h =
      let row = held_row ks us in
      let n = held_length ks us w.even in
      let a = w.within in
      let z = went row (x (drop i row)) i p l u j q l₁ u₁ (omega arith) f (rw (← n) at h.same) in
      let b = z.inside in
      record {
        on = z.on;
        inside = omega arith;
        few = z.few;
        long_kinds = ap length z.kinds ∙ simp length-sets;
        long_args = ap length z.args ∙ simp length-sets;
      }

  -- of a member of the cycle
  pub after : {m : Mode} {d : ℕ} → Ready ks us i p l u → Parses ks us m d i p l u (part_done j q) l₁ u₁
      → After (length ks) i p l u j q l₁ u₁
  after {m} {d} w h = after_fits w (reads_fits m d (drop i (held_row ks us))) h.meets

module _ {B : Type 0} {ks us : List ℕ} {m : Mode} {d i p : ℕ} {l u : List ℕ} (k : Tree → List Symbol → Res B) where
  -- a part that stops stops the whole
  pub stops : {r : Ended} {l₁ u₁ : List ℕ} → (r.code ≡ 0 → ⊥) → Parses ks us m d i p l u r l₁ u₁
      → Meets ks us (λ s. bind (reads m d s) k) i p l u r l₁ u₁
  stops e h = meets_bad k e h.meets

  -- what follows a part goes on from where it ends
  pub goes_on : {j q : ℕ} {r : Ended} {l₁ u₁ l₂ u₂ : List ℕ} → Ready ks us i p l u
      → Parses ks us m d i p l u (part_done j q) l₁ u₁
      → ((e : Tree) → Meets ks us (k e) j q l₁ u₁ r l₂ u₂) → Meets ks us (λ s. bind (reads m d s) k) i p l u r l₂ u₂
  goes_on w h g = meets_bind k (reads_fits m d (drop i (held_row ks us))) w.even w.within h.meets λ x _. g x

-- ---- the sign of an expression

-- behind a sign, or not
pub behind_at : (row : List Symbol) (i : ℕ) (o : Op) → behind_sign o (drop i row) ≡ drop (i + skip_of o) row
behind_at row i none = rw add-zero
behind_at row i (op o) = rest_at row i

-- a kind that is an operator stands before the end
op_stands : (look : Symbol → Op) (ks : List ℕ) (i k : ℕ) → k ≡ get_or ks i 0 → look (mark 0) ≡ none → {o : Two}
    → look (mark k) ≡ op o → i < length ks
op_stands look ks i k ek bare {o} h =
    stands ks i λ z. let y : look (mark k) ≡ none = ap (λ (x : ℕ). look (mark x)) (ek ∙ z) ∙ bare in clash (cc)

-- only a minus writes
pub plain_sign : (k : ℕ) → (k ≡ 45 → ⊥) → sign_drafts (add_op (mark k)) ≡ []
unfolding byte_of
plain_sign k n = rw (ne_eqb k 45 n) (go (eqb k 43))
  where
    go : (t : Bool) → sign_drafts (cond t (op plus) none) ≡ []
    go true = refl
    go false = refl

-- a sign writes at most one draft for its token
sign_pays : (o : Op) → length (sign_drafts o) ≤ skip_of o
sign_pays none = omega arith
sign_pays (op o) = go (is_minus o)
  where
    go : (t : Bool) → length (cond t (draft kind_negate 0 ∷ []) []) ≤ 1
    go true = omega arith
    go false = omega arith

-- the place behind the sign is within
pub skip_within : (ks : List ℕ) (i k s : ℕ) → i ≤ length ks → k ≡ get_or ks i 0 → s ≡ skip_of (add_op (mark k))
    → i + s ≤ length ks
unfolding byte_of
skip_within ks i k s le ek es = rw es (go (add_op (mark k)) refl)
  where
    go : (o : Op) → add_op (mark k) ≡ o → i + skip_of o ≤ length ks
    go none h = omega arith
    go (op o) h = let a = op_stands add_op ks i k ek refl h in omega arith

pub sign_within : {ks us : List ℕ} {i p k s : ℕ} {l u : List ℕ} → Ready ks us i p l u → k ≡ get_or ks i 0
    → s ≡ skip_of (add_op (mark k)) → i + s ≤ length ks
sign_within {ks} {i = i} {k = k} {s = s} w ek es = skip_within ks i k s w.within ek es

-- the sign there
pub sign_at : (ks us : List ℕ) (i k : ℕ) → length us ≡ length ks → k ≡ get_or ks i 0
    → add_op (next (drop i (held_row ks us))) ≡ add_op (mark k)
sign_at ks us i k even ek =
    ap add_op (token_at_holds ks us i even) ∙ add_seen (get_or ks i 0) (get_or us i 0)
    ∙ ap (λ (x : ℕ). add_op (mark x)) (sym ek)

-- ---- a chain of parts: the terms of an expression, the factors of a term

-- what follows a part: the drafts of what stands before it, and the chain with the tree that f makes of the part's
abbrev chain_then : ℕ → (Tree → Mode) → List Draft → (Tree → Tree) → Tree → List Symbol → Res Tree
chain_then d chain is f e t = tell is (reads (chain (f e)) d t)

-- a chain of parts, with the look at its operators
pub record Chain (look : Symbol → Op) (part : Mode) (chain : Tree → Mode) : Type 0 where
  clause : (d : ℕ) (s : List Symbol) (l : Tree) → reads (chain l) d s
      ≡ by_op (look (next s)) (λ _. give l s) λ o. bind (reads part d (rest s))
      (chain_then d chain (draft (kind_two o) 0 ∷ []) (two o l))
  pub seen : (k a : ℕ) → look (symbol_of k a) ≡ look (mark k)
  pub bare : look (mark 0) ≡ none

pub terms_chain : Chain add_op term terms
unfolding byte_of
terms_chain = record { clause = reads_terms; seen = add_seen; bare = refl }

pub factors_chain : Chain mul_op factor factors
unfolding byte_of
factors_chain = record { clause = reads_factors; seen = mul_seen; bare = refl }

-- none, or one with its draft's kind
no_op : (o : Op) → None ≡ kind_op o → o ≡ none
no_op none h = refl
no_op (op n) h = clash (cc)

some_op : (o : Op) {k : ℕ} → Some k ≡ kind_op o → (n : Two) × (o ≡ op n) × (k ≡ kind_two n)
some_op none h = clash (cc)
some_op (op n) h = (n, refl, cc)

module _ {look : Symbol → Op} {part : Mode} {chain : Tree → Mode}
    (c : Chain look part chain) {ks us : List ℕ} {i p k : ℕ} {l u : List ℕ}
    (w : Ready ks us i p l u) (ek : k ≡ get_or ks i 0) where
  -- the look at the token
  look_at : look (next (drop i (held_row ks us))) ≡ look (mark k)
  look_at = ap look (token_at_holds ks us i w.even) ∙ c.seen (get_or ks i 0) (get_or us i 0)
      ∙ ap (λ (x : ℕ). look (mark x)) (sym ek)

  -- no operator: it ends
  chain_end : {d : ℕ} → None ≡ kind_op (look (mark k)) → (x : Tree)
      → Parses ks us (chain x) d i p l u (part_done i p) l u
  chain_end {d} z x =
      let row = held_row ks us in
      let n = look_at ∙ no_op (look (mark k)) z in
      record {
        meets = meets_by (reads (chain x) d) (c.clause d (drop i row) x ∙ rw n)
            (meets_give w.even w.within x);
      }

  module _ {o : ℕ} (z : Some o ≡ kind_op (look (mark k))) where
    -- it is an operator
    found : (n : Two) × (look (mark k) ≡ op n) × (o ≡ kind_two n)
    found = some_op (look (mark k)) z

    chain_inside : i < length ks
    chain_inside = op_stands look ks i k ek c.bare found.1

    -- a part behind it goes on
    chain_by : {d : ℕ} {r : Ended} {l₁ u₁ : List ℕ} (x : Tree)
        → Meets ks us (λ s. bind (reads part d s) (chain_then d chain (op_drafts (Some o)) (two found.0 x)))
        (i + 1) p l u r l₁ u₁
        → Parses ks us (chain x) d i p l u r l₁ u₁
    chain_by {d} {r} {l₁} {u₁} x h =
        let row = held_row ks us in
        let n = found.0 in
        let y : List Symbol → Res Tree =
        λ s. bind (reads part d s) (chain_then d chain (draft (kind_two n) 0 ∷ []) (two n x)) in
        let g : Meets ks us y (i + 1) p l u r l₁ u₁ = rw (← found.2) h in
        record {
          meets = meets_by (reads (chain x) d) (c.clause d (drop i row) x ∙ rw (look_at ∙ found.1))
              (meets_rest g);
        }

-- ---- a chain on its way

-- Of the whole, begun in the mode m at token i and draft p, the part at token j is next; behind it stands the draft of
-- the operator o. What the rest gives, the whole gives.
pub record Going (ks us : List ℕ) (m part : Mode) (chain : Tree → Mode) (d i p : ℕ) (l u : List ℕ) (o : Option ℕ)
    (j q : ℕ) (l₁ u₁ : List ℕ) : Type 0 where
  pub on : i ≤ j
  pub ready : Ready ks us j (q + length (op_drafts o)) l₁ u₁
  pub joins : Tree → Tree → Tree
  pub onward : {r : Ended} {l₂ u₂ : List ℕ}
      → ((x : Tree) → Meets ks us (λ s. bind (reads part d s) (chain_then d chain (op_drafts o) (joins x))) j q l₁ u₁ r
      l₂ u₂)
      → Parses ks us m d i p l u r l₂ u₂

abbrev pub GoingTerms : List ℕ → List ℕ → ℕ → ℕ → ℕ → List ℕ → List ℕ → Option ℕ → ℕ → ℕ → List ℕ → List ℕ → Type 0
GoingTerms ks us = Going ks us expr term terms

abbrev pub GoingFactors : List ℕ → List ℕ → ℕ → ℕ → ℕ → List ℕ → List ℕ → Option ℕ → ℕ → ℕ → List ℕ → List ℕ → Type 0
GoingFactors ks us = Going ks us term factor factors

-- a term begins with its first factor
pub term_first : {ks us : List ℕ} {d i p : ℕ} {l u : List ℕ} → Ready ks us i p l u
    → Going ks us term factor factors d i p l u None i p l u
term_first {ks} {us} {d} {i} w =
    record {
      on = omega arith;
      ready =
          record {
            even = w.even;
            within = w.within;
            room_kinds = omega (arith, w.room_kinds);
            room_args = omega (arith, w.room_args);
          };
      joins = λ x y. y;
      onward = λ g. record { meets = meets_by (reads term d) (reads_term d (drop i (held_row ks us))) (g time) };
    }

module _ {ks us : List ℕ} {i p k s : ℕ} {l u : List ℕ} (o : Option ℕ) (w : Ready ks us i p l u) (ek : k ≡ get_or ks i 0)
    (eo : op_drafts o ≡ sign_drafts (add_op (mark k)))
    (es : s ≡ skip_of (add_op (mark k))) where
  -- the reading behind the sign
  signed_at : (d : ℕ) → reads expr d (drop i (held_row ks us))
      ≡ bind (reads term d (drop (i + s) (held_row ks us)))
      (chain_then d terms (op_drafts o) (signed (add_op (mark k))))
  signed_at d =
      let row = held_row ks us in
      reads_expr d (drop i row) ∙ rw (sign_at ks us i k w.even ek, eo, es, ← behind_at row i (add_op (mark k)))

  -- an expression begins with its first term
  pub expr_first : {d : ℕ} → Going ks us expr term terms d i p l u o (i + s) p l u
  expr_first {d} =
      let n = sign_within w ek es in
      let a : length (op_drafts o) ≤ s = rw (eo, es) (sign_pays (add_op (mark k))) in
      record {
        on = omega arith;
        ready =
            record {
              even = w.even;
              within = n;
              room_kinds = omega (arith, w.room_kinds);
              room_args = omega (arith, w.room_args);
            };
        joins = λ x. signed (add_op (mark k));
        onward = λ g. record { meets = meets_by (reads expr d) (signed_at d) (g time) };
      }

module _ {ks us : List ℕ} {m part : Mode} {chain : Tree → Mode} {d i p : ℕ} {l u : List ℕ} {o : Option ℕ}
    {j q : ℕ} {l₁ u₁ : List ℕ} (z : Going ks us m part chain d i p l u o j q l₁ u₁) where
  part_ready : Ready ks us j q l₁ u₁
  part_ready =
      let w = z.ready in
      record {
        even = w.even;
        within = w.within;
        room_kinds = omega (arith, w.room_kinds);
        room_args = omega (arith, w.room_args);
      }

  -- a part that stops stops the whole
  pub part_stopped : {r : Ended} {l₂ u₂ : List ℕ} → (r.code ≡ 0 → ⊥) → Parses ks us part d j q l₁ u₁ r l₂ u₂
      → Parses ks us m d i p l u r l₂ u₂
  part_stopped e h = z.onward λ x. stops (chain_then d chain (op_drafts o) (z.joins x)) e h

  module _ {j₁ q₁ : ℕ} {l₂ u₂ : List ℕ} (h : Parses ks us part d j q l₁ u₁ (part_done j₁ q₁) l₂ u₂) where
    -- there is room for the operator's draft
    pub op_room : (q₁ + length (op_drafts o) ≤ length l₂) × (q₁ + length (op_drafts o) ≤ length u₂)
    op_room =
        let a = after part_ready h in
        let w = z.ready in
        (omega (arith, w.room_kinds), omega (arith, w.room_args))

    module _ {q₂ : ℕ} {l₃ u₃ : List ℕ} (w : PutsOp o q₁ l₂ u₂ q₂ l₃ u₃) where
      op_long : (length l₃ ≡ length l₁) × (length u₃ ≡ length u₁)
      op_long =
          let a = after part_ready h in
          let x : length l₃ ≡ length l₂ = ap length w.kinds ∙ simp length-sets in
          let y : length u₃ ≡ length u₂ = ap length w.args ∙ simp length-sets in
          (x ∙ a.long_kinds, y ∙ a.long_args)

      op_ready : Ready ks us j₁ q₂ l₃ u₃
      op_ready =
          let a = after part_ready h in
          let b = z.ready in
          let x = op_long in
          let n = w.place in
          record {
            even = b.even;
            within = a.inside;
            room_kinds = omega (arith, b.room_kinds);
            room_args = omega (arith, b.room_args);
          }

      -- what the chain gives from there on, the whole gives
      op_whole : {r : Ended} {l₄ u₄ : List ℕ} → ((x : Tree) → Parses ks us (chain x) d j₁ q₂ l₃ u₃ r l₄ u₄)
          → Parses ks us m d i p l u r l₄ u₄
      op_whole g =
          z.onward λ x. goes_on (chain_then d chain (op_drafts o) (z.joins x)) part_ready h λ y. meets_op w
          (g (z.joins x y)).meets

      module _ {look : Symbol → Op} (c : Chain look part chain) {k : ℕ} (ek : k ≡ get_or ks j₁ 0) where
        -- no operator: the whole ends
        pub part_last : None ≡ kind_op (look (mark k)) → Parses ks us m d i p l u (part_done j₁ q₂) l₃ u₃
        part_last n = op_whole λ x. chain_end c op_ready ek n x

        module _ {o₁ : ℕ} (n : Some o₁ ≡ kind_op (look (mark k))) where
          pub part_inside : j₁ < length ks
          part_inside = chain_inside c op_ready ek n

          pub part_less : length ks - (j₁ + 1) < length ks - j
          part_less = let a = after part_ready h in let b = part_inside in omega arith

          -- another part is next
          pub part_again : Going ks us m part chain d i p l u (Some o₁) (j₁ + 1) q₂ l₃ u₃
          part_again =
              let a = after part_ready h in
              let b = part_inside in
              let s = z.on in
              let v = op_ready in
              record {
                on = omega arith;
                ready =
                    record {
                      even = v.even;
                      within = omega arith;
                      room_kinds = omega (arith, v.room_kinds);
                      room_args = omega (arith, v.room_args);
                    };
                joins = two (found c op_ready ek n).0;
                onward = λ g. op_whole λ x. chain_by c op_ready ek n x (g x);
              }
