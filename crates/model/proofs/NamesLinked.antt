-- Names resolved and uses listed: a turn of each of the two loops, over drafts and over units, and their ends.
use Prim.Native.Nat.{ℕ, ◌+◌, ◌-◌, ◌≤◌, ◌<◌}
use mathlib.Core.Path.{◌≡◌, refl, sym, ap, ap₂, ◌∙◌}
use mathlib.Core.Bool.{Bool, true, false, cond, ◌||◌}
use mathlib.Core.List.{List, [], ◌∷◌, ◌++◌}
use native.Mathlib.Omega.{arith}
use lib.Dec.{ltb}
use lib.ListN.{length, get_or, set, take, length-set}
use lib.Seq.{sets, length-sets, take_all}
use Rattle.laws.specs.Places.{gather, only_if}
use Rattle.laws.proofs.Tests.{cond_ind}
use Rattle.laws.proofs.Bools.{or_false}
use Rattle.laws.proofs.Gathers.{gather_more, gather_none, gather_same}
use Rattle.drafts.specs.Kinds.{defines, is_use, asks, is_named}
use Rattle.drafts.specs.Places.{begins, ends, in_statement}
use Rattle.laws.specs.Put.{Put}
use Rattle.model.specs.Places.{resolved_at, resolved, is_ordered, ordered_in}
use Rattle.model.specs.Places.{used_at, used_in, starts_from}
use Rattle.model.specs.Plan.{own_slots}
use Rattle.model.specs.Working.{flawed_by, used_owner, used_here, used_from, Resolved, Resolving, Linking, Walked}
use Rattle.model.specs.Working.{Linkable, Tabled, Linked}
use Rattle.model.specs.declared.names.Usage.{Usage}
use Rattle.laws.proofs.Puts.{put_none, put_both}
use Rattle.model.proofs.DefinitionsCollected.{only_length}
use Rattle.model.proofs.NamesResolved.{resolving_first, resolving_named, resolving_other, resolving_last, slot_here}
use Rattle.model.proofs.SlotOwners.{used_same}
use Rattle.model.proofs.UsesTabled.{rises_to, gather_next, ends_within, uses_of, uses_to, begin_at, whole_uses}
use Rattle.model.proofs.UsesTabled.{whole_begin}

-- a draft uses at most one unit, and one that is no name uses none
used_one : (owners : List ℕ) (kind slot : ℕ) → length (used_here owners kind slot) ≤ 1
used_one owners kind slot =
    let o = get_or owners slot 0 in
    cond_ind (λ (l : List ℕ). length l ≤ 1) (is_use kind) (used_owner owners slot) []
    (λ _. only_length (ltb 0 o) (o - 1)) (λ _. omega arith)

used_other : (owners : List ℕ) (kind slot : ℕ) → is_named kind ≡ false → used_here owners kind slot ≡ []
used_other owners kind slot n =
    let a = (or_false (asks kind) _ (or_false (defines kind) _ n).1).0 in
    rw (or_false (is_use kind) _ a).0

abbrev pub usage : ℕ → Bool → Usage
usage w flawed = record { count = w; flawed = flawed }

-- ---- before the first draft of a part
linking_first : {keys kinds places args₀ args : List ℕ} {flawed : Bool} {i : ℕ} (owners used : List ℕ) (w : ℕ)
    → Resolving keys kinds places args₀ flawed i args
    → Linking keys kinds places owners args₀ used i w i (usage w flawed) args used
unfolding gather
linking_first {i = i} owners used w r =
    let e : i - i ≡ 0 = omega arith in
    record { resolving = r; uses = rw e (put_none w used refl) }

-- ---- the loop over drafts stands at draft i, with w numbers listed; it began at `from` with what n tells
pub record Walking (keys kinds places owners args₁ used₁ : List ℕ) (from end : ℕ) (n : Usage) (w : ℕ) (flawed : Bool)
    (i : ℕ) (args used : List ℕ)
    : Type 0 where
  pub beyond : from ≤ i
  pub within : i ≤ end
  pub short : w ≤ i
  pub long : length args ≡ length args₁
  pub long_used : length used ≡ length used₁
  pub so : (args₀ : List ℕ) → Resolving keys kinds places args₀ n.flawed from args₁
      → Linking keys kinds places owners args₀ used₁ from n.count i (usage w flawed) args used

-- its beginning
pub walking_first : {keys kinds args : List ℕ} {from end w : ℕ} (places owners used : List ℕ) (flawed : Bool)
    → Walked keys kinds args from end w
    → Walking keys kinds places owners args used from end (usage w flawed) w flawed from args used
walking_first {w = w} places owners used flawed p =
    record {
      beyond = omega arith;
      within = p.upward;
      short = p.short;
      long = refl;
      long_used = refl;
      so = λ args₀ r. linking_first owners used w r;
    }

module _ {keys kinds places owners args₁ used₁ args used : List ℕ} {from end w i : ℕ} {n : Usage} {flawed : Bool}
    (v : Walking keys kinds places owners args₁ used₁ from end n w flawed i args used) (l : length kinds ≤ length args₁)
    (e : end ≤ length kinds) where
  -- one draft more, of which vs is what it uses
  further : {r : ℕ} {after : Bool} {vs args' used' : List ℕ} → i < end → Put vs w r used used' → length vs ≤ 1
      → length args' ≡ length args
      → ((args₀ : List ℕ) → length kinds ≤ length args₀ → Resolving keys kinds places args₀ flawed i args
      → Resolving keys kinds places args₀ after (i + 1) args'
      × (vs ≡ used_from owners kinds (resolved keys kinds args₀) i))
      → Walking keys kinds places owners args₁ used₁ from end n r after (i + 1) args' used'
  further {r} {after} {vs} {args'} {used'} h put one same more =
      record {
        beyond = omega (arith, v.beyond);
        within = omega arith;
        short = omega (arith, v.short, put.behind, one);
        long = same ∙ v.long;
        long_used = ap length put.written ∙ length-sets used w vs ∙ v.long_used;
        so = λ args₀ k. so args₀ (v.so args₀ k);
      }
    where
      so : (args₀ : List ℕ) → Linking keys kinds places owners args₀ used₁ from n.count i (usage w flawed) args used
          → Linking keys kinds places owners args₀ used₁ from n.count (i + 1) (usage r after) args' used'
      so args₀ k =
          let f = used_from owners kinds (resolved keys kinds args₀) in
          let m = more args₀ (omega (arith, k.resolving.long, v.long)) k.resolving in
          record { resolving = m.0; uses = rw (gather_more f from i v.beyond, ← m.1) (put_both k.uses put) }

  -- a draft is a name: it is resolved, and what it uses is listed
  module _ {slot r r' : ℕ} {args' used' used'' : List ℕ} (h : i < end)
      (s : slot ≡ resolved_at keys (get_or kinds i 0) (get_or args i 0))
      (put' : Put (used_here owners (get_or kinds i 0) slot) w r' used used'') (a : args' ≡ set args i slot)
      (u : used' ≡ used'') (c : r ≡ r') where
    -- what was put, with what the loop has then
    put : Put (used_here owners (get_or kinds i 0) slot) w r used used'
    put = rw (u, c) put'

    listed : {after : Bool}
        → ((args₀ : List ℕ) → length kinds ≤ length args₀ → Resolving keys kinds places args₀ flawed i args
        → Resolving keys kinds places args₀ after (i + 1) args')
        → Walking keys kinds places owners args₁ used₁ from end n r after (i + 1) args' used'
    listed more =
        further h put (used_one owners (get_or kinds i 0) slot) (ap length a ∙ length-set args i slot)
        (λ args₀ wide k.
        (more args₀ wide k, ap (used_here owners (get_or kinds i 0)) (sym (slot_here k (omega arith) wide s))))

    pub walking_named : {b after : Bool} → b ≡ flawed_by places kinds (get_or kinds i 0) slot → after ≡ (flawed || b)
        → Walking keys kinds places owners args₁ used₁ from end n r after (i + 1) args' used'
    walking_named t z = listed (λ args₀ wide k. resolving_named k (omega arith) wide s t a z)

  -- a draft is no name
  pub walking_other : {r : ℕ} {after : Bool} {args' used' : List ℕ} → i < end → is_named (get_or kinds i 0) ≡ false
      → args' ≡ args → used' ≡ used → r ≡ w → after ≡ flawed
      → Walking keys kinds places owners args₁ used₁ from end n r after (i + 1) args' used'
  walking_other h m a u c z =
      further h (rw (u, c) (put_none w used refl)) (omega arith) (ap length a)
      (λ args₀ wide k. (
        resolving_other k (omega arith) wide m a z,
        sym (used_other owners (get_or kinds i 0) (get_or (resolved keys kinds args₀) i 0) m),
      ))

  -- all drafts
  pub walking_last : end ≤ i → (w ≤ end) × ((args₀ : List ℕ) → Resolving keys kinds places args₀ n.flawed from args₁
      → Linking keys kinds places owners args₀ used₁ from n.count end (usage w flawed) args used)
  walking_last h =
      let e : i ≡ end = omega (arith, v.within) in
      (omega (arith, v.short, v.within), λ args₀ k. rw e at (v.so args₀ k))

-- ---- the loop over units stands at unit j, with r of the order before it

-- with all owners a unit uses what it uses, with none nothing
module _ (bounds kinds slots owners : List ℕ) (assigned : List (List ℕ))
    (same : (i : ℕ) → used_from owners kinds slots i ≡ used_at assigned kinds slots i) where
  uses_known : (j m : ℕ) → m ≡ cond (is_ordered bounds kinds j) (length owners) 0
      → in_statement bounds (used_from (take m owners) kinds slots) j ≡ uses_of assigned bounds kinds slots j
  uses_known j m e = go (is_ordered bounds kinds j) e
    where
      begin : ℕ
      begin = begins bounds j

      count : ℕ
      count = ends bounds j - begin

      none : (s : ℕ) (b : Bool) → cond b (used_owner [] s) [] ≡ []
      none s true = refl
      none s false = refl

      go : (b : Bool) → m ≡ cond b (length owners) 0
          → in_statement bounds (used_from (take m owners) kinds slots) j
          ≡ cond b (in_statement bounds (used_at assigned kinds slots) j) []
      go true q = rw (q, take_all (length owners) owners (omega arith)) (gather_same _ _ count begin (λ i _ _. same i))
      go false q =
          rw q
          (gather_none (used_from [] kinds slots) count
          begin (λ i _ _. none (get_or slots i 0) (is_use (get_or kinds i 0))))

pub record Stating (lines bounds kinds keys places args₀ starts₀ used₀ : List ℕ) (n : Usage) (r j : ℕ)
    (args starts used : List ℕ) : Type 0 where
  pub within : j ≤ length lines
  pub few : r ≤ j
  pub short : n.count ≤ begins bounds j
  pub long_starts : length starts ≡ length starts₀
  pub long_used : length used ≡ length used₀
  pub resolving : Resolving keys kinds places args₀ n.flawed (begins bounds j) args
  pub uses : Put
      (uses_to (own_slots (length lines) bounds kinds (resolved keys kinds args₀)) bounds kinds
      (resolved keys kinds args₀) j) 0 n.count used₀ used
  pub begun : Put
      (gather
      (begin_at (own_slots (length lines) bounds kinds (resolved keys kinds args₀)) bounds kinds
      (resolved keys kinds args₀)) j 0)
      0 r starts₀ starts

module _ {lines bounds kinds keys owners args₀ used₀ : List ℕ} (places starts₀ : List ℕ)
    (s : Linkable lines bounds kinds keys owners args₀ used₀) where
  abbrev slots : List ℕ
  slots = resolved keys kinds args₀

  abbrev own : List (List ℕ)
  own = own_slots (length lines) bounds kinds slots

  pub stating_first : Stating lines bounds kinds keys places args₀ starts₀ used₀ (usage 0 false) 0 0 args₀ starts₀ used₀
  unfolding gather
  stating_first =
      record {
        within = omega arith;
        few = omega arith;
        short = omega arith;
        long_starts = refl;
        long_used = refl;
        resolving = rw s.sound.first (resolving_first keys kinds places args₀);
        uses = put_none 0 used₀ refl;
        begun = put_none 0 starts₀ refl;
      }

  module _ {n : Usage} {r j : ℕ} {args starts used : List ℕ}
      (v : Stating lines bounds kinds keys places args₀ starts₀ used₀ n r j args starts used) where
    -- the drafts of a unit can be gone over
    pub stating_walked : {from end : ℕ} → j < length lines → from ≡ begins bounds j → end ≡ ends bounds j
        → Walked keys kinds args from end n.count
    stating_walked h p q =
        record {
          few = s.few;
          wide = omega (arith, s.wide, v.resolving.long);
          small = s.sound.small;
          upward = omega (arith, s.sound.rises.rise j h, p, q);
          inside = omega (arith, ends_within s.sound j h, q);
          short = omega (arith, v.short, p);
        }

    -- not more is listed than 16 bits hold
    pub stating_few : n.count < 65536
    stating_few =
        omega (
          arith,
          v.short,
          rises_to bounds (length lines) s.sound.rises j v.within,
          s.sound.ended,
          s.sound.small,
        )

    -- one unit more, of which the first m owners are looked at
    pub stating_next : {b : Bool} {w r' m from end : ℕ} {n' : Usage} {args' starts' used' : List ℕ} → j < length lines
        → b ≡ is_ordered bounds kinds j
        → w ≡ n.count → Put (only_if b w) r r' starts starts' → m ≡ cond b (length owners) 0 → from ≡ begins bounds j
        → end ≡ ends bounds j
        → length used' ≡ length used → n'.count ≤ end
        → ((args₁ : List ℕ) → Resolving keys kinds places args₁ n.flawed from args
        → Linking keys kinds places (take m owners) args₁ used from n.count end n' args' used')
        → Stating lines bounds kinds keys places args₀ starts₀ used₀ n' r' (j + 1) args' starts' used'
    stating_next {b} {w} {r'} {m} {from} {end} {n'} {args'} {starts'} {used'} h t c put known p q long short so =
        record {
          within = omega arith;
          few = omega (arith, v.few, put.behind, only_length b w);
          short = omega (arith, short, q);
          long_starts = ap length put.written ∙ length-sets starts r (only_if b w) ∙ v.long_starts;
          long_used = long ∙ v.long_used;
          resolving = rw q at linked.resolving;
          uses =
              rw (gather_next (uses_of own bounds kinds slots) j) (put_both v.uses (rw uses_same at linked.uses));
          begun = rw (gather_next (begin_at own bounds kinds slots) j) (put_both v.begun (rw begin_same at put));
        }
      where
        linked : Linking keys kinds places (take m owners) args₀ used from n.count end n' args' used'
        linked = so args₀ (rw p v.resolving)

        uses_same : gather (used_from (take m owners) kinds slots) (end - from) from ≡ uses_of own bounds kinds slots j
        uses_same =
            rw (p, q) (uses_known bounds kinds slots owners own (used_same s.owned s.slotted) j m (rw t at known))

        begin_same : only_if b w ≡ begin_at own bounds kinds slots j
        begin_same = ap₂ only_if t (omega (arith, c, v.uses.behind))

    -- all units
    pub stating_last : {w : ℕ} {starts' : List ℕ} → length lines ≤ j → w ≡ n.count → starts' ≡ set starts r w
        → Linked lines bounds kinds keys places n args₀ args starts₀ starts' used₀ used
    stating_last {w} {starts'} h c e = record { resolved_so = done; tabled_so = rw done.same tabled }
      where
        equated : List ℕ
        equated = ordered_in (length lines) bounds kinds

        last : j ≡ length lines
        last = omega (arith, v.within)

        done : Resolved keys kinds places args₀ args n.flawed
        done = resolving_last v.resolving (omega (arith, ap (begins bounds) last, s.sound.ended))

        all : uses_to own bounds kinds slots j ≡ used_in own bounds kinds slots equated
        all = ap (uses_to own bounds kinds slots) last ∙ whole_uses own bounds kinds slots (length lines)

        -- the starts, and behind them how much is used
        behind : Put (w ∷ []) r (r + 1) starts starts'
        behind = record { behind = refl; written = e }

        row : gather (begin_at own bounds kinds slots) j 0 ++ (w ∷ []) ≡ starts_from 0 own bounds kinds slots equated
        row =
            let count : w ≡ length (uses_to own bounds kinds slots j) = omega (arith, c, v.uses.behind) in
            rw (count, last) (whole_begin own bounds kinds slots (length lines))

        tabled : Tabled equated bounds kinds slots n.count starts₀ starts' used₀ used
        tabled =
            record {
              uses = rw all at v.uses;
              begun = (put_both v.begun behind).written
                  ∙ ap (sets starts₀ 0) row;
            }
