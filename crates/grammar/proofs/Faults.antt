-- Faults 18 and 19 mean what the paper says, and nothing else has that meaning.
use Prim.Native.Nat.{ℕ, suc, ◌+◌, ◌-◌, ◌≤◌, ◌<◌}
use mathlib.Core.Path.{◌≡◌, refl, sym, ap, subst, ◌∙◌}
use mathlib.Core.List.{List, [], ◌∷◌, ◌++◌, append_assoc, append-nil, append_cancel_right}
use mathlib.Core.Logic.{◌↔◌, ⊎_elim}
use native.Mathlib.Omega.{arith}
use native.Mathlib.Numerals.{add-one}
use lib.ListN.{length, length-append, get_or, take, drop, take-append-drop}
use lib.Seq.{take-append_seam, take-append-add, get_or-append_seam, get_or_at, take-suc, take-take, length-take-le}
use Rattle.laws.proofs.Tests.{lt_or_ge}
use Rattle.limits.specs.Limits.{levels}
use Rattle.tokens.specs.Symbol.{Symbol, mark}
use Rattle.drafts.specs.Tree.{Says}
use Rattle.drafts.specs.Drafts.{Draft}
use Rattle.grammar.specs.Look.{next, Paren, Call, factor_start}
use Rattle.grammar.specs.Grammar.{Derives}
use Rattle.grammar.specs.Parser.{End, got, bad, Res, entire, calls, Read, read, fault, row_answer, read_row}
use Rattle.grammar.specs.Meaning.{Calm, Front, TooDeep}
use Rattle.grammar.proofs.Stops.{Wrong, Stops, wrong, deep}
use Rattle.grammar.proofs.Endings.{clash, Code, for_grammar, for_depth, OutEnd, Fronts}
use Rattle.grammar.proofs.StatementsSound.{Stated, StatedVia, stated_le, entire_out}
use Rattle.grammar.proofs.Accepts.{entire_complete, accepts}
use Rattle.grammar.proofs.Local.{Like, LocEnd}
use Rattle.grammar.proofs.StatementsEnough.{entire_enough}
use Rattle.grammar.proofs.StatementsLocal.{entire_loc}

-- how reading a row ends, with calls enough
abbrev pub ending : ℕ → List Symbol → End Says
ending d row = (entire (calls row) d row).end

-- every count of calls that suffices ends so
ending_is : (f d : ℕ) (row : List Symbol) → calls row ≤ f → (entire f d row).end ≡ ending d row
ending_is f d row le = ap (λ (r : Res Says). r.end) (entire_enough f (calls row) d row (omega arith) (omega arith))

-- where reading w ++ t stops before t, so does reading every row with the same front and the same token there
same_stop : (d D c : ℕ) (w t u : List Symbol) → ending d (w ++ t) ≡ bad c t → Like u t → d ≤ D → (c ≡ 19 → D ≡ d)
    → ending D (w ++ u) ≡ bad c u
same_stop d D c w t u h like le n =
    let f : ℕ = calls (w ++ t) + calls (w ++ u) in
    let y : (entire f d (w ++ t)).end ≡ bad c t = ending_is f d (w ++ t) (omega arith) ∙ h in
    let l : LocEnd d (w ++ t) (entire f) (bad c t) = rw y at (entire_loc f d (w ++ t)).ends in
    let q : w ≡ l.0 = append_cancel_right w l.0 t l.1 in
    sym (ending_is f D (w ++ u) (omega arith))
    ∙ subst (λ (v : List Symbol). (entire f D (v ++ u)).end ≡ bad c u) (sym q) (l.2 D u le n like)

-- so none of these is derived
refuse : (d D c : ℕ) (w t u : List Symbol) (x : Says) → ending d (w ++ t) ≡ bad c t → Like u t → d ≤ D
    → (c ≡ 19 → D ≡ d)
    → Derives D (w ++ u) x → ⊥
refuse d D c w t u x h like le n a =
    let z = same_stop d D c w t u h like le n in
    let g = entire_complete a (calls (w ++ u)) (omega arith) in
    clash (cc)

-- each is like itself
like_self : (t : List Symbol) → Like t t
like_self [] = tt
like_self (a ∷ t) = refl

-- a front, with what completes it
front_of : {d : ℕ} {x : Says} (w u : List Symbol) → Derives d (w ++ u) x → Front d w
front_of {x = x} w u a = record { behind = u; says = x; derived = a }

-- up to the token behind w
one_more : (w t : List Symbol) (a : Symbol) → take (length w + 1) (w ++ a ∷ t) ≡ w ++ a ∷ []
one_more w t a = take-append-add w (a ∷ t) 1

-- 18 is not 19
eighteen : {X : Type 0} → ◌≡◌ {A = ℕ} 18 19 → X
eighteen e = absurd (omega arith)

-- ---- what a fault of the parser means

-- a fault 18 before t: no statement can go on there
meaning_wrong : (w t : List Symbol) → Fronts Derives levels 18 w → ending levels (w ++ t) ≡ bad 18 t
    → Wrong (w ++ t) (length w)
meaning_wrong w t a h =
    record {
      within = let l = length-append w t in omega arith;
      before = rw (take-append_seam w t) (front_of w a.over.0 a.over.2);
      before_calm = rw (take-append_seam w t) λ q. let z = a.calm q in front_of w z.0 z.2;
      no_more = next_one t h;
      not_whole = λ d y b. refuse levels (levels + d) 18 w t t y h (like_self t) (omega arith) eighteen
          (stated_le b (levels + d) (omega arith));
    }
  where
    next_one : (t : List Symbol) → ending levels (w ++ t) ≡ bad 18 t → length w < length (w ++ t) → (d : ℕ)
        → Front d (take (length w + 1) (w ++ t)) → ⊥
    next_one [] h lt d r = let l = length-append w [] in omega arith
    next_one (a ∷ t) h lt d r =
        let s : Front d (w ++ a ∷ []) = rw (one_more w t a) at r in
        let b : Derives d (w ++ a ∷ s.behind) s.says = rw append_assoc at s.derived in
        refuse levels (levels + d) 18 w (a ∷ t) (a ∷ s.behind) s.says h refl (omega arith) eighteen
        (stated_le b (levels + d) (omega arith))

-- a fault 19 before t: there stands an opening that is one level too deep
meaning_deep : (w t v : List Symbol) (x : Says) → Derives (suc levels) (w ++ v) x → next t ≡ mark 40 → next v ≡ mark 40
    → ending levels (w ++ t) ≡ bad 19 t → TooDeep (w ++ t) (length w)
unfolding next
meaning_deep w [] v x a p q h = clash (cc)
meaning_deep w (b ∷ t) [] x a p q h = clash (cc)
meaning_deep w (b ∷ t) (c ∷ v) x a p q h =
    record {
      within = let l = length-append w (b ∷ t) in omega arith;
      mark_there = get_or-append_seam w b t (mark 0) ∙ p;
      allowed = rw (one_more w t b) (front_of {x = x} (w ++ b ∷ []) v (rw (append_assoc w (b ∷ []) v, p ∙ sym q) a));
      no_more = λ r.
          let s : Front levels (w ++ b ∷ []) = rw (one_more w t b) at r in
          refuse levels levels 19 w (b ∷ t) (b ∷ s.behind) s.says h refl (omega arith) (λ _. refl)
          (rw append_assoc at s.derived);
    }

-- a row's reading, taken apart
data Answer (row : List Symbol) : Read → Type 0 where
  right : {x : Says} → Derives levels row x → Answer row (read x)
  stopped : {c : ℕ} (w t : List Symbol) → row ≡ w ++ t → Fronts Derives levels c w → Code t c
      → ending levels (w ++ t) ≡ bad c t
      → Answer row (fault c (length w))

-- the parser answers so
answered : (row : List Symbol) → Answer row (read_row row)
unfolding read_row
answered row =
    go (entire (calls row) levels row).out (ending levels row) (entire_out (calls row) levels row).ends refl
  where
    go : (o : List Draft) (t : End Says) → OutEnd (Stated levels) (StatedVia levels) row o t → ending levels row ≡ t
        → Answer row (row_answer (length row) t)
    go o (got y t) r e = right ((accepts row y).0 (ap (row_answer (length row)) e))
    go o (bad c t) r e =
        let l = length-append r.0 t in
        let p = ap length r.1 in
        let n : length r.0 ≡ length row - length t = omega arith in
        rw n at (stopped r.0 t r.1 r.2 r.3 (rw r.1 at e))

-- ---- before the place where reading stops, no opening is too deep

-- two rows that are the same end with the same token
last_same : (p q : List Symbol) (t u : Symbol) → p ++ t ∷ [] ≡ q ++ u ∷ [] → t ≡ u
last_same p q t u h =
    let a = length-append p (t ∷ []) in
    let b = length-append q (u ∷ []) in
    let c = ap length h in
    let n : length q ≡ length p = omega arith in
    sym (get_or-append_seam p t [] u) ∙ ap (λ (z : List Symbol). get_or z (length p) u) h
    ∙ get_or_at q u [] u (length p) n

-- what ends with an opening does not end with a function's name
opening_calm : (row : List Symbol) (j : ℕ) → j < length row → get_or row j (mark 0) ≡ mark 40 → Calm (take (j + 1) row)
unfolding factor_start
opening_calm row j lt h v t p q k =
    let e : take (j + 1) row ≡ take j row ++ mark 40 ∷ [] = rw (add-one, take-suc row j (mark 0) lt, h) in
    let s : t ≡ mark 40 = last_same v (take j row) t (mark 40) (sym q ∙ e) in
    let z : Paren ≡ Call p = sym (ap factor_start s) ∙ k in
    clash (cc)

-- if there were one, reading would have stopped at it
first : (row w t : List Symbol) (c j : ℕ) → row ≡ w ++ t → ending levels (w ++ t) ≡ bad c t → j < length w
    → TooDeep row j → ⊥
first row w t c j q h lt T = go (read_row (take (j + 1) row)) (answered (take (j + 1) row))
  where
    go : (r : Read) → Answer (take (j + 1) row) r → ⊥
    go r (right {x} a) = T.no_more (front_of {x = x} (take (j + 1) row) [] (rw append-nil a))
    go r (stopped v [] p F e k) =
        let s : take (j + 1) row ≡ v = p ∙ append-nil v in
        let z = F.calm (rw s at (opening_calm row j T.within T.mark_there)) in
        T.no_more (rw s (front_of v z.0 z.2))
    go r (stopped {c = b} v (a ∷ u) p F e k) =
        let y : List Symbol = u ++ drop (j + 1) row in
        let s : row ≡ v ++ a ∷ y = sym (take-append-drop (j + 1) row)
        ∙ ap (λ (z : List Symbol). z ++ drop (j + 1) row) p ∙ append_assoc v (a ∷ u) _ in
        let m = same_stop levels levels b v (a ∷ u) (a ∷ y) k refl (omega arith) (λ _. refl) in
        let n : ending levels (w ++ t) ≡ bad b (a ∷ y) =
        subst (λ (z : List Symbol). ending levels z ≡ bad b (a ∷ y)) (sym s ∙ q) m in
        let g : t ≡ a ∷ y = cc in
        let i : j + 1 ≤ length row = rw add-one T.within in
        let z : length (take (j + 1) row) ≡ j + 1 = length-take-le (j + 1) row i in
        omega (
          arith,
          length-append w t,
          length-append v (a ∷ y),
          ap length s,
          ap length q,
          ap length g,
          ap length p,
          length-append v (a ∷ u),
        )

-- every fault of the parser has this meaning
meaning : (row : List Symbol) (c i : ℕ) → read_row row ≡ fault c i → Stops row c i
meaning row c i h = go (read_row row) (answered row) h
  where
    at_place : {b : ℕ} (w t : List Symbol) → row ≡ w ++ t → Fronts Derives levels b w → Code t b
        → ending levels (w ++ t) ≡ bad b t
        → Stops row b (length w)
    at_place w t q F for_grammar k =
        wrong {i = length w} (rw q (meaning_wrong w t F k)) λ j lt. first row w t 18 j q k lt
    at_place w t q F (for_depth p) k =
        let a = F.over in
        deep {i = length w} (rw q (meaning_deep w t a.0 a.1 a.2 p (a.3 refl) k)) λ j lt.
        first row w t 19 j q k lt

    go : (r : Read) → Answer row r → r ≡ fault c i → Stops row c i
    go r (right a) e = clash (cc)
    go r (stopped {c = b} w t q F d k) e =
        let m : b ≡ c = cc in
        let n : length w ≡ i = cc in
        rw (← m, ← n) (at_place w t q F d k)

-- ---- no two faults have it

-- a front's front
pub front_le : {d : ℕ} (row : List Symbol) (i j : ℕ) → i ≤ j → Front d (take j row) → Front d (take i row)
front_le {d} row i j le a =
    let r : List Symbol = drop i (take j row) in
    let q : take j row ≡ take i row ++ r =
    sym (take-append-drop i (take j row)) ∙ ap (λ (z : List Symbol). z ++ r) (take-take i j row le) in
    let b : Derives d ((take i row ++ r) ++ a.behind) a.says =
    subst (λ (z : List Symbol). Derives d (z ++ a.behind) a.says) q a.derived in
    front_of {x = a.says} (take i row) (r ++ a.behind) (rw append_assoc at b)

-- less, equal or more
order_cases : {X : Type 0} (i j : ℕ) → (i < j → X) → (i ≡ j → X) → (j < i → X) → X
order_cases i j f g h = ⊎_elim f (λ le. ⊎_elim h (λ ge. g (omega arith)) (lt_or_ge j i)) (lt_or_ge i j)

-- where no statement can go on, no opening is too deep there or behind
apart : (row : List Symbol) (i j : ℕ) → Wrong row i → ((k : ℕ) → k < i → TooDeep row k → ⊥) → TooDeep row j → ⊥
apart row i j W f T =
    let h = T.within in
    let not_past : i ≤ j → ⊥ =
    λ le. W.no_more (omega arith) (suc levels) (front_le row (i + 1) (j + 1) (omega arith) T.allowed) in
    ⊎_elim (λ lt. f j lt T) not_past (lt_or_ge j i)

-- two meanings of a row are one
only : {row : List Symbol} {c b i j : ℕ} → Stops row c i → Stops row b j → (c ≡ b) × (i ≡ j)
only {row} {i = i} {j = j} (wrong W f) (wrong U g) =
    (refl, order_cases i j (before W U) (λ e. e) λ lt. sym (before U W lt))
  where
    before : {i j : ℕ} → Wrong row i → Wrong row j → i < j → i ≡ j
    before {i} {j} W U lt =
        let h = U.within in
        absurd (W.no_more (omega arith) (suc levels) (front_le row (i + 1) j (omega arith) U.before))
only {row} {i = i} {j = j} (wrong W f) (deep T g) = absurd (apart row i j W f T)
only {row} {i = i} {j = j} (deep T f) (wrong U g) = absurd (apart row j i U g T)
only {row} {i = i} {j = j} (deep T f) (deep S g) =
    (refl, order_cases i j (λ lt. absurd (g i lt T)) (λ e. e) λ lt. absurd (f j lt S))

-- a statement has none
no_meaning : {row : List Symbol} {c i : ℕ} {x : Says} → Stops row c i → Derives levels row x → ⊥
no_meaning {x = x} (wrong W f) a = W.not_whole levels x a
no_meaning {row} {i = i} {x = x} (deep T f) a =
    T.no_more (front_of {x = x} (take (i + 1) row) (drop (i + 1) row) (rw (take-append-drop (i + 1) row) a))

-- the parser answers a fault exactly if it has this meaning
pub exactly : (row : List Symbol) (c i : ℕ) → (read_row row ≡ fault c i) ↔ Stops row c i
exactly row c i = (meaning row c i, λ m. go m (read_row row) refl)
  where
    go : Stops row c i → (r : Read) → read_row row ≡ r → r ≡ fault c i
    go m (read x) e = absurd (no_meaning m ((accepts row x).0 e))
    go m (fault b j) e = let z = only (meaning row b j e) m in rw (z.0, z.1)
