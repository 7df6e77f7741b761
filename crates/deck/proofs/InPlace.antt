-- Places of a statement are in it: its first byte, its end, and each byte of its joined text that is no space.
use Prim.Native.Nat.{ℕ, zero, suc, ◌+◌, ◌-◌, ◌≤◌, ◌<◌}
use mathlib.Core.Path.{◌≡◌, refl, sym, ap, ◌∙◌}
use mathlib.Core.Bool.{Bool, true, false, cond}
use mathlib.Core.List.{List, [], ◌∷◌, ◌++◌, append_assoc}
use mathlib.Core.Logic.{◌⊎◌, inl, inr, ⊎_elim}
use native.Mathlib.Omega.{arith}
use borrow.Author.Tests.{ne_eqb}
use lib.ListN.{length, drop, length-append}
use lib.Seq.{drop-append-le, drop-append-add, get_or-append_seam}
use Rattle.laws.specs.Every.{Every}
use Rattle.laws.specs.Runs.{EndOrSpace}
use Rattle.laws.proofs.Bools.{or_false}
use Rattle.laws.proofs.Tests.{bool_cases, lt_or_ge, cond_ind}
use Rattle.deck.specs.Lines.{Line, starred, blank, trimmed, passed}
use Rattle.deck.specs.Reading.{Statement, State, fresh, inside, cards_of, leaves_open, goes_on, just_closed, after}
use Rattle.deck.specs.Reading.{ended, left, reading}
use Rattle.deck.specs.Joined.{line_part, joined}
use Rattle.deck.specs.Codes.{spaced}
use Rattle.deck.specs.Spots.{spot, first_byte, byte_spot, last_column, last_spot, spot_of}
use Rattle.deck.specs.InPlace.{line_at_spot, InCard, StandsAt, Earlier}
use Rattle.deck.specs.declared.Place.TheVariants.{AtToken, AtEnd}
use Rattle.deck.specs.declared.Spot.{Spot}
use Rattle.deck.proofs.Parts.{part_le, joined_cons}
use Rattle.deck.proofs.Spotting.{byte_over, byte_here, byte_below}

-- ---- a statement begins with a card that has bytes
pub record Begun (ls : List Line) : Type 0 where
  pub first : Line
  pub rest : List Line
  pub whole : ls ≡ first ∷ rest
  pub card : starred first ≡ false
  pub some : 0 < length first

-- a line that is not blank has bytes
bytes_some : (l : Line) → blank l ≡ false → 0 < length l
unfolding trimmed
bytes_some [] h = absurd (let z : ◌≡◌ {A = ℕ} 0 1 = cc in omega arith)
bytes_some (b ∷ l) h = omega arith

-- a line that is not passed over is such a card
passed_not : (l : Line) → passed l ≡ false → (starred l ≡ false) × (0 < length l)
unfolding passed
passed_not l h = let both = or_false (starred l) (blank l) h in (both.0, bytes_some l both.1)

begun_one : (l : Line) → passed l ≡ false → Begun (l ∷ [])
begun_one l h =
    let w = passed_not l h in record { first = l; rest = []; whole = refl; card = w.0; some = w.1 }

-- with a line more
begun_more : (ls : List Line) (l : Line) → Begun ls → Begun (ls ++ (l ∷ []))
begun_more ls l w =
    record {
      first = w.first;
      rest = w.rest ++ (l ∷ []);
      whole = ap (λ (x : List Line). x ++ (l ∷ [])) w.whole;
      card = w.card;
      some = w.some;
    }

-- so do all of a reading
abbrev OpenBegun : State → Type 0
OpenBegun fresh = Unit {0}
OpenBegun (inside f ls) = Begun ls

reading_begun : (s : State) (n : ℕ) (ls : List Line) → OpenBegun s
    → Every (λ (t : Statement). Begun t.lines) (reading s n ls)
unfolding reading left after ended
reading_begun fresh n [] o = tt
reading_begun (inside f cs) n [] o = (o, tt)
reading_begun fresh n (l ∷ ls) o =
    go (passed l) (leaves_open l) (λ h. begun_one l h) (λ s o. reading_begun s (suc n) ls o)
  where
    go : (p d : Bool) → (p ≡ false → Begun (l ∷ []))
        → ((s : State) → OpenBegun s → Every (λ (t : Statement). Begun t.lines) (reading s (suc n) ls))
        → Every (λ (t : Statement). Begun t.lines)
        (cond p [] (just_closed d n (l ∷ [])) ++ reading (cond p fresh (goes_on d n (l ∷ []))) (suc n) ls)
    go true d b ih = ih fresh tt
    go false true b ih = ih (inside n (l ∷ [])) (b refl)
    go false false b ih = (b refl, ih fresh tt)
reading_begun (inside f cs) n (l ∷ ls) o = go (leaves_open l) (λ s o. reading_begun s (suc n) ls o)
  where
    go : (d : Bool)
        → ((s : State) → OpenBegun s → Every (λ (t : Statement). Begun t.lines) (reading s (suc n) ls))
        → Every (λ (t : Statement). Begun t.lines)
        (just_closed d f (cs ++ (l ∷ [])) ++ reading (goes_on d f (cs ++ (l ∷ []))) (suc n) ls)
    go true ih = ih (inside f (cs ++ (l ∷ []))) (begun_more cs l o)
    go false ih = (begun_more cs l o, ih fresh tt)

-- of a text
pub all_begun : (ls : List Line) → Every (λ (t : Statement). Begun t.lines) (reading fresh 1 ls)
all_begun ls = reading_begun fresh 1 ls tt

-- ---- the first byte, and the end

-- a card behind others, with a column that it has
card_in : (x : List Line) (l : Line) (y : List Line) (c : ℕ) → starred l ≡ false → 0 < c
    → (c ≤ length l) ⊎ ((l ≡ []) × (c ≡ 1)) → InCard (x ++ (l ∷ y)) (spot (length x) c)
card_in x l y c s z h =
    let here = get_or-append_seam x l y [] in
    record {
      within = omega (arith, length-append x (l ∷ y));
      card = rw here s;
      column = z;
      byte = rw here h;
    }

-- the statement's first byte
pub first_in : (ls : List Line) → Begun ls → InCard ls first_byte
first_in ls w = rw w.whole (card_in [] w.first w.rest 1 w.card (omega arith) (inl (omega (arith, w.some))))

-- a line's last byte
last_byte : (l : Line) → (last_column (length l) ≤ length l) ⊎ ((l ≡ []) × (last_column (length l) ≡ 1))
last_byte [] = inr (refl, refl)
last_byte (b ∷ l) = rw (ne_eqb (suc (length l)) 0 (λ e. omega arith)) (inl (omega arith))

last_some : (l : Line) → 0 < last_column (length l)
last_some [] = omega arith
last_some (b ∷ l) = rw (ne_eqb (suc (length l)) 0 (λ e. omega arith)) (omega arith)

-- the last card's last byte, or where the search began
last_in : (x ls : List Line) (z : Spot) → InCard (x ++ ls) z → InCard (x ++ ls) (last_spot z (length x) ls)
unfolding last_spot
last_in x [] z w = w
last_in x (l ∷ ls) z w =
    let next = cond (starred l) z (spot (length x) (last_column (length l))) in
    let more : (x ++ (l ∷ [])) ++ ls ≡ x ++ (l ∷ ls) = append_assoc x (l ∷ []) ls in
    let long : length (x ++ (l ∷ [])) ≡ suc (length x) = omega (arith, length-append x (l ∷ [])) in
    let here : InCard (x ++ (l ∷ ls)) next =
    cond_ind (InCard (x ++ (l ∷ ls))) (starred l) z (spot (length x) (last_column (length l))) (λ _. w)
    (λ s. card_in x l ls (last_column (length l)) s (last_some l) (last_byte l)) in
    rw (more, long) at (last_in (x ++ (l ∷ [])) ls next (rw more here))

-- the statement's end
pub end_in : (ls : List Line) → Begun ls → InCard ls (spot_of ls AtEnd)
end_in ls w = last_in [] ls first_byte (first_in ls w)

-- ---- a byte of the joined text that is no space
pub record Solid (ls : List Line) (n : ℕ) : Type 0 where
  pub first : ℕ
  pub rest : List ℕ
  pub there : drop n (joined (cards_of ls)) ≡ first ∷ rest
  pub no_space : first ≡ 32 → ⊥

-- a comment has none
solid_over : (l : Line) (ls : List Line) (n : ℕ) → starred l ≡ true → Solid (l ∷ ls) n → Solid ls n
unfolding cards_of
solid_over l ls n c w =
    record { first = w.first; rest = w.rest; there = rw c at w.there; no_space = w.no_space }

-- behind cards each with a space before it: in their joined text, one further back
spaced_solid : (cs : List Line) (k b : ℕ) (r : List ℕ) → drop k (spaced cs) ≡ b ∷ r → (b ≡ 32 → ⊥)
    → (j : ℕ) × (k ≡ suc j) × (drop j (joined cs) ≡ b ∷ r)
unfolding spaced
spaced_solid [] zero b r d h = absurd (let z : ◌≡◌ {A = ℕ} 0 1 = cc in omega arith)
spaced_solid [] (suc k) b r d h = absurd (let z : ◌≡◌ {A = ℕ} 0 1 = cc in omega arith)
spaced_solid (m ∷ cs) zero b r d h = absurd (h (let z : 32 ≡ b = cc in sym z))
spaced_solid (m ∷ cs) (suc k) b r d h = (k, refl, ap (drop k) (joined_cons m cs) ∙ d)

-- one that a card's part does not have is in the cards below
module _ (l : Line) (ls : List Line) (n : ℕ) (c : starred l ≡ false) (h : length (line_part l) ≤ n)
    (w : Solid (l ∷ ls) n) where
  -- where it is there
  found : (j : ℕ) × (n - length (line_part l) ≡ suc j) × (drop j (joined (cards_of ls)) ≡ w.first ∷ w.rest)
  unfolding cards_of
  found =
      let part = line_part l in
      let cs = cards_of ls in
      let k = n - length part in
      let sum : length part + k ≡ n = omega arith in
      let there : drop n (joined (l ∷ cs)) ≡ w.first ∷ w.rest = rw c at w.there in
      let below : drop k (spaced cs) ≡ w.first ∷ w.rest =
      sym (drop-append-add part (spaced cs) k)
      ∙ ap (λ (m : ℕ). drop m (part ++ spaced cs)) sum
      ∙ ap (drop n) (sym (joined_cons l cs)) ∙ there in
      spaced_solid cs k w.first w.rest below w.no_space

  -- behind the space
  solid_deep : length (line_part l) < n
  solid_deep = omega (arith, found.1)

  place : n - suc (length (line_part l)) ≡ found.0
  place = omega (arith, found.1)

  solid_below : Solid ls (n - suc (length (line_part l)))
  solid_below = record { first = w.first; rest = w.rest; there = rw place found.2; no_space = w.no_space }

  -- it is the same byte
  solid_same : drop n (joined (cards_of (l ∷ ls))) ≡ drop (n - suc (length (line_part l))) (joined (cards_of ls))
  unfolding solid_below
  solid_same = w.there ∙ sym solid_below.there

-- nothing, or a space, stands behind a part
spaced_apart : (cs : List Line) → EndOrSpace (spaced cs)
unfolding spaced
spaced_apart [] = inl refl
spaced_apart (m ∷ cs) = inr (_, refl)

-- byte n of the joined text of the lines ls, which stand behind x, is at p
record Behind (x ls : List Line) (n : ℕ) (p : Spot) : Type 0 where
  in_card : InCard (x ++ ls) p
  in_part : p.column ≤ length (line_part (line_at_spot (x ++ ls) p))
  behind : List ℕ
  apart : EndOrSpace behind
  goes_on : drop n (joined (cards_of ls)) ≡ drop (p.column - 1) (line_part (line_at_spot (x ++ ls) p)) ++ behind

-- the same of a line more in front, whose part does not have it
behind_more : (x : List Line) (l : Line) (ls : List Line) (m n : ℕ) (p : Spot)
    → drop n (joined (cards_of (l ∷ ls))) ≡ drop m (joined (cards_of ls)) → Behind (x ++ (l ∷ [])) ls m p
    → Behind x (l ∷ ls) n p
behind_more x l ls m n p e w =
    let more : (x ++ (l ∷ [])) ++ ls ≡ x ++ (l ∷ ls) = append_assoc x (l ∷ []) ls in
    record {
      in_card = rw more at w.in_card;
      in_part = rw more at w.in_part;
      behind = w.behind;
      apart = w.apart;
      goes_on = e ∙ rw more at w.goes_on;
    }

-- what is known of the lines below l
abbrev Lower : List Line → Line → List Line → Type 0
Lower x l ls = (m : ℕ) → Solid ls m → Behind (x ++ (l ∷ [])) ls m (byte_spot (length (x ++ (l ∷ []))) ls m)

-- where it is
byte_in : (x ls : List Line) (n : ℕ) → Solid ls n → Behind x ls n (byte_spot (length x) ls n)
unfolding cards_of joined
byte_in x [] zero w = absurd (let e = w.there in let z : ◌≡◌ {A = ℕ} 0 1 = cc in omega arith)
byte_in x [] (suc n) w = absurd (let e = w.there in let z : ◌≡◌ {A = ℕ} 0 1 = cc in omega arith)
byte_in x (l ∷ ls) n w =
    let lower : Lower x l ls = λ m v. byte_in (x ++ (l ∷ [])) ls m v in
    ⊎_elim (over lower) (λ c. ⊎_elim (here c) (below lower c) (lt_or_ge n (length (line_part l))))
    (bool_cases (starred l))
  where
    long : length (x ++ (l ∷ [])) ≡ suc (length x)
    long = omega (arith, length-append x (l ∷ []))

    over : Lower x l ls → starred l ≡ true → Behind x (l ∷ ls) n (byte_spot (length x) (l ∷ ls) n)
    over ih c =
        rw (byte_over l ls (length x) n c, ← long)
        (behind_more x l ls n n _ (rw c) (ih n (solid_over l ls n c w)))

    here : starred l ≡ false → n < length (line_part l) → Behind x (l ∷ ls) n (byte_spot (length x) (l ∷ ls) n)
    here c h =
        let line = get_or-append_seam x l ls [] in
        let back : suc n - 1 ≡ n = omega arith in
        rw (byte_here l ls (length x) n c h)
        (record {
          in_card = card_in x l ls (suc n) c (omega arith) (inl (omega (arith, part_le l)));
          in_part = rw line (omega arith);
          behind = spaced (cards_of ls);
          apart = spaced_apart (cards_of ls);
          goes_on =
              rw (c, line, back)
              (ap (drop n) (joined_cons l (cards_of ls))
              ∙ drop-append-le n (line_part l) (spaced (cards_of ls)) (omega arith));
        })

    below : Lower x l ls → starred l ≡ false → length (line_part l) ≤ n
        → Behind x (l ∷ ls) n (byte_spot (length x) (l ∷ ls) n)
    below ih c h =
        let m = n - suc (length (line_part l)) in
        rw (byte_below l ls (length x) n c h, ← long)
        (behind_more x l ls m n _ (solid_same l ls n c h w) (ih m (solid_below l ls n c h w)))

-- A BYTE of the joined text that is no space stands where its spot says
pub byte_stands : (ls : List Line) (n : ℕ) → Solid ls n → StandsAt ls n (spot_of ls (AtToken n))
byte_stands ls n w =
    let b = byte_in [] ls n w in
    record {
      in_card = b.in_card;
      in_part = b.in_part;
      behind = b.behind;
      apart = b.apart;
      goes_on = b.goes_on;
    }

-- ---- the order of spots is that of bytes

-- a byte is not above the lines
byte_low : (d : ℕ) (ls : List Line) (n : ℕ) → Solid ls n → d ≤ (byte_spot d ls n).down
unfolding cards_of joined
byte_low d [] zero w = absurd (let e = w.there in let z : ◌≡◌ {A = ℕ} 0 1 = cc in omega arith)
byte_low d [] (suc n) w = absurd (let e = w.there in let z : ◌≡◌ {A = ℕ} 0 1 = cc in omega arith)
byte_low d (l ∷ ls) n w =
    ⊎_elim (λ c. rw (byte_over l ls d n c) (omega (arith, byte_low (suc d) ls n (solid_over l ls n c w))))
    (λ c. ⊎_elim (λ h. rw (byte_here l ls d n c h) (omega arith))
    (λ h. rw (byte_below l ls d n c h) (omega (arith, byte_low (suc d) ls _ (solid_below l ls n c h w))))
    (lt_or_ge n (length (line_part l))))
    (bool_cases (starred l))

-- the same of their order
abbrev InOrder : ℕ → List Line → Type 0
InOrder d ls = (i j : ℕ) → i < j → Solid ls i → Solid ls j → Earlier (byte_spot d ls i) (byte_spot d ls j)

-- an earlier byte has an earlier spot
byte_order : (d : ℕ) (ls : List Line) (m n : ℕ) → m < n → Solid ls m → Solid ls n
    → Earlier (byte_spot d ls m) (byte_spot d ls n)
unfolding cards_of joined
byte_order d [] zero n h v w = absurd (let e = v.there in let z : ◌≡◌ {A = ℕ} 0 1 = cc in omega arith)
byte_order d [] (suc m) n h v w = absurd (let e = v.there in let z : ◌≡◌ {A = ℕ} 0 1 = cc in omega arith)
byte_order d (l ∷ ls) m n h v w =
    let lower : InOrder (suc d) ls = λ i j k a b. byte_order (suc d) ls i j k a b in
    ⊎_elim (over lower) (card lower) (bool_cases (starred l))
  where
    over : InOrder (suc d) ls → starred l ≡ true → Earlier (byte_spot d (l ∷ ls) m) (byte_spot d (l ∷ ls) n)
    over ih c =
        rw (byte_over l ls d m c, byte_over l ls d n c)
        (ih m n h (solid_over l ls m c v) (solid_over l ls n c w))

    -- both here, one here, or both below
    card : InOrder (suc d) ls → starred l ≡ false → Earlier (byte_spot d (l ∷ ls) m) (byte_spot d (l ∷ ls) n)
    card ih c =
        ⊎_elim (λ k. rw (byte_here l ls d n c k, byte_here l ls d m c (omega arith)) (inr (refl, omega arith)))
        (λ k. ⊎_elim
        (λ j. rw (byte_here l ls d m c j, byte_below l ls d n c k)
        (inl (omega (arith, byte_low (suc d) ls _ (solid_below l ls n c k w)))))
        (λ j. rw (byte_below l ls d m c j, byte_below l ls d n c k)
        (ih _ _ (omega (arith, solid_deep l ls m c j v)) (solid_below l ls m c j v)
        (solid_below l ls n c k w)))
        (lt_or_ge m (length (line_part l))))
        (lt_or_ge n (length (line_part l)))

pub spot_order : (ls : List Line) (m n : ℕ) → m < n → Solid ls m → Solid ls n
    → Earlier (spot_of ls (AtToken m)) (spot_of ls (AtToken n))
spot_order ls m n = byte_order 0 ls m n
