-- What is worked out by place over the arrays of a sheet is what the definitions say of its statements: fault 26, and
-- the
-- kinds inside blocks.
use Prim.Native.Nat.{ℕ, ◌+◌, ◌-◌, ◌<◌}
use mathlib.Core.Path.{◌≡◌, refl, sym, ap, ap₂, ◌∙◌}
use mathlib.Core.Bool.{Bool, true, false, not, cond, ◌&&◌}
use mathlib.Core.List.{List, [], ◌∷◌, ◌++◌, map, append_assoc}
use native.Mathlib.Omega.{arith}
use borrow.Author.Tests.{lt-ltb}
use lib.Dec.{ltb}
use lib.ListN.{length, get_or, length-append, length-map}
use Rattle.laws.specs.Lists.{concat_map}
use Rattle.laws.proofs.Concats.{map_append}
use Rattle.laws.proofs.Along.{gather_fronts, starts_at}
use Rattle.drafts.specs.Tree.{Says, constants, assignment, state, header, ending}
use Rattle.drafts.specs.Kinds.{kind_fetch, kind_output}
use Rattle.drafts.specs.Drafts.{Draft, drafts_of}
use Rattle.sheet.specs.Sheet.{Numbered}
use Rattle.sheet.specs.Layout.{drafts_in, draft_kinds, draft_args, Laid}
use Rattle.blocks.specs.Tests.{fault_if}
use Rattle.blocks.specs.Pairing.{bracket_of, Headed}
use Rattle.blocks.specs.Inside.{free_known, set_by, set_inside, head_wrong, inner_right, inner_fault, fault26, Standing}
use Rattle.blocks.specs.Inside.{outer, enclosed, standing_next, faults26_from, faults26, block_faults}
use Rattle.blocks.specs.Units.{Inner, stated_in}
use Rattle.blocks.specs.Members.{Pending, idle, partly, keys_inside, inner_of, pending_by, units_of}
use Rattle.blocks.specs.Layout.{drafts_stood, drafts_stated}
use Rattle.blocks.specs.InsidePlaces.{standing_at, set_at, set_below, right_at, wrong_at, fault26_at}
use Rattle.blocks.specs.InsidePlaces.{faults26_in, role_by, role_at, role_kind, kinds_with}
use Rattle.blocks.specs.InsidePlaces.{rewritten_kinds}
use Rattle.blocks.proofs.DraftsWalk.{kind_at, in_part}
use Rattle.blocks.proofs.SheetBrackets.{drafts_by, bounds_starts, line_at}
use Rattle.blocks.proofs.BlocksShaped.{shaped_text}
use Rattle.blocks.proofs.UnitsStated.{stood_by, stated_from, stated_from_holds, stated_args}
use Rattle.blocks.proofs.KindsStood.{role_of, stood_kinds}
use Rattle.blocks.proofs.StatementKeys.{key_of_kind, assignment_names, header_outputs}
use Rattle.blocks.proofs.InsideLaid.{pending_after, pending_more, Located, held, bracket_at_holds, set_at_holds}
use Rattle.blocks.proofs.InsideLaid.{keys_at_holds, free_known_holds, set_below_holds, outputs_of, inputs_of}
use Rattle.blocks.proofs.InsideLaid.{above_of, located}

-- where a statement stands behind what has been read
abbrev standing_of : Pending → Standing
standing_of idle = outer
standing_of (partly h os is ns) = enclosed is (keys_inside ns)

standing_pending : (b : Pending) (l : ℕ) (x : Says) → standing_of (pending_by b l x) ≡ standing_next (standing_of b) x
standing_pending b l (constants cs) = refl
standing_pending idle l (assignment k e) = refl
standing_pending (partly h os is ns) l (assignment k e) =
    ap (enclosed is) (map_append (λ (n : Inner). n.key) ns (inner_of os ns l k e ∷ []))
standing_pending b l (state k i e) = refl
standing_pending b l (header os is) = refl
standing_pending b l ending = refl

-- a row of one for each draft
ones : (r : ℕ) (ds : List Draft)
    → concat_map (λ (d : Draft). role_kind r d.kind ∷ []) ds ≡ map (role_kind r) (draft_kinds ds)
unfolding concat_map
ones r [] = refl
ones r (d ∷ ds) = ap (◌∷◌ (role_kind r d.kind)) (ones r ds)

-- ---- of the sheet of ss, each header of which names an output
module _ (ss : List Numbered) (headed : Headed ss) where
  abbrev kinds : List ℕ
  kinds = draft_kinds (drafts_in ss)

  abbrev args : List ℕ
  args = draft_args (drafts_in ss)

  abbrev bounds : List ℕ
  bounds = starts_at drafts_by 0 ss

  abbrev lines : List ℕ
  lines = map (λ (s : Numbered). s.line) ss

  module _ (free : List ℕ) (a : List Numbered) (s : Numbered) (b : List Numbered) (p : ss ≡ a ++ s ∷ b) where
    abbrev j : ℕ
    j = length a

    abbrev c : ℕ
    c = standing_at bounds kinds j

    abbrev right : Bool
    right = right_at free bounds kinds args c j

    -- outside there is no fault
    outside_none : c ≡ 0 → fault_if (ltb 0 c && not right) s.line 26 ≡ []
    outside_none z = go (ltb 0 c) (rw z)
      where
        go : (t : Bool) → t ≡ false → fault_if (t && not right) s.line 26 ≡ []
        go t e = rw e

    -- inside, what the places say is what the definitions say
    inside_same : (is above : List ℕ) (x : Says) → s.says ≡ x → 0 < c → right ≡ inner_right free is above x
        → fault_if (ltb 0 c && not right) s.line 26 ≡ inner_fault free (enclosed is above) s
    inside_same is above x e h q =
        rw (lt-ltb 0 c h)
        (ap (λ (t : Bool). fault_if (not t) s.line 26) (q ∙ ap (inner_right free is above) (sym e)))

    -- by what the statement says
    wrong_meant : (x : Says) → s.says ≡ x → set_at bounds kinds args j ≡ set_by x → (q : Pending) → Located a c q
        → fault_if (wrong_at (length ss) free bounds kinds args (bracket_of x) c j) s.line 26
        ≡ fault26 free (set_inside b) (standing_of q) s x
    wrong_meant (constants cs) e w idle v = outside_none v
    wrong_meant (constants cs) e w (partly h os is ns) v =
        inside_same is (keys_inside ns) (constants cs) e (omega (arith, v.standing)) (rw w)
    wrong_meant (assignment k t) e w idle v = outside_none v
    wrong_meant (assignment k t) e w (partly h os is ns) v =
        let used = keys_at_holds ss headed a s b p kind_fetch
        ∙ ap (λ x. concat_map (key_of_kind kind_fetch) (drafts_of x)) e ∙ assignment_names k t in
        inside_same is (keys_inside ns) (assignment k t) e (omega (arith, v.standing))
        (rw (w, inputs_of ss headed v (s ∷ b) p, above_of ss headed v (s ∷ b) p, used))
    wrong_meant (state k i t) e w idle v = outside_none v
    wrong_meant (state k i t) e w (partly h os is ns) v =
        inside_same is (keys_inside ns) (state k i t) e (omega (arith, v.standing)) (rw w)
    wrong_meant (header os is) e w q v =
        let outputs = keys_at_holds ss headed a s b p kind_output
        ∙ ap (λ x. concat_map (key_of_kind kind_output) (drafts_of x)) e ∙ header_outputs os is in
        let rest : length ss - (j + 1) ≡ length b = omega (arith, ap length p, length-append a (s ∷ b)) in
        let next : length (a ++ (s ∷ [])) ≡ j + 1 = length-append a (s ∷ []) in
        let below : set_below bounds kinds args (length b) (j + 1) ≡ set_inside b =
        rw next at (set_below_holds ss headed (a ++ (s ∷ [])) b (p ∙ sym (append_assoc a (s ∷ []) b))) in
        ap₂ (λ ks ms. fault_if (head_wrong ks ms) s.line 26) outputs
        (ap (λ (n : ℕ). set_below bounds kinds args n (j + 1)) rest ∙ below)
    wrong_meant ending e w q v = refl

    -- 26 AT A STATEMENT
    fault_meant : fault26_at (length ss) free lines bounds kinds args j
        ≡ fault26 free (set_inside b) (standing_of (pending_after idle a)) s s.says
    fault_meant =
        rw (bracket_at_holds ss headed a s b p, line_at (held ss headed) a s b p)
        (wrong_meant s.says refl (set_at_holds ss headed a s b p) (pending_after idle a)
        (located ss headed a (s ∷ b) p))

    -- what its store becomes, by what it says
    none_either : (t : Bool) → ◌≡◌ {A = ℕ} (cond t 0 0) 0
    none_either true = refl
    none_either false = refl

    role_by_holds : (x : Says) → set_at bounds kinds args j ≡ set_by x → (q : Pending) → Located a c q
        → role_by bounds kinds args (bracket_of x) c j ≡ role_of q x
    role_by_holds (constants cs) w q v = rw w (none_either (ltb 0 c))
    role_by_holds (assignment k t) w idle v = rw v
    role_by_holds (assignment k t) w (partly h os is ns) v =
        let h : 0 < c = omega (arith, v.standing) in
        rw (lt-ltb 0 c h, w, outputs_of ss headed v (s ∷ b) p, above_of ss headed v (s ∷ b) p)
    role_by_holds (state k i t) w q v = rw w (none_either (ltb 0 c))
    role_by_holds (header os is) w q v = refl
    role_by_holds ending w q v = refl

    role_meant : role_at bounds kinds args j ≡ role_of (pending_after idle a) s.says
    role_meant =
        rw (bracket_at_holds ss headed a s b p)
        (role_by_holds s.says (set_at_holds ss headed a s b p) (pending_after idle a) (located ss headed a (s ∷ b) p))

    -- THE KINDS OF A STATEMENT
    kinds_meant : kinds_with (role_at bounds kinds args j) bounds kinds j
        ≡ draft_kinds (drafts_stood (stood_by (pending_after idle a) s.says))
    kinds_meant =
        let r = role_of (pending_after idle a) s.says in
        ap (λ (m : ℕ). kinds_with m bounds kinds j) role_meant
        ∙ in_part drafts_by ss a s b p (λ i. role_kind r (get_or kinds i 0) ∷ []) (λ d. role_kind r d.kind ∷ [])
        (λ i. ap (λ (k : ℕ). role_kind r k ∷ []) (kind_at (drafts_in ss) i))
        ∙ ones r (drafts_by s) ∙ sym (stood_kinds (pending_after idle a) s.says)

  -- THE FAULTS 26
  pub inside_of : faults26_in lines bounds kinds args ≡ faults26 ss
  unfolding faults26_in faults26_from pending_after
  inside_of =
      let free = free_known ss in
      let n : length lines ≡ length ss = length-map ss (λ (s : Numbered). s.line) in
      rw (n, free_known_holds ss headed)
      (gather_fronts (fault26_at (length ss) free lines bounds kinds args)
      (λ a b. faults26_from free (standing_of (pending_after idle a)) b) ss (λ a. refl)
      (λ a s b p. ap₂ ◌++◌ (sym (fault_meant free a s b p)) (next a s b)) [] ss refl)
    where
      next : (a : List Numbered) (s : Numbered) (b : List Numbered)
          → faults26_from (free_known ss) (standing_next (standing_of (pending_after idle a)) s.says) b
          ≡ faults26_from (free_known ss) (standing_of (pending_after idle (a ++ (s ∷ [])))) b
      next a s b =
          ap (λ q. faults26_from (free_known ss) q b)
          (sym (ap standing_of (pending_more idle a s) ∙ standing_pending (pending_after idle a) s.line s.says))

  -- THE KINDS after rewriting
  pub kinds_of : rewritten_kinds (length ss) bounds kinds args ≡ draft_kinds (drafts_stated (stated_from idle ss))
  unfolding rewritten_kinds stated_from concat_map pending_after
  kinds_of =
      gather_fronts (λ j. kinds_with (role_at bounds kinds args j) bounds kinds j)
      (λ a b. draft_kinds (drafts_stated (stated_from (pending_after idle a) b))) ss (λ a. refl)
      (λ a s b p. map_append (λ (d : Draft). d.kind) (drafts_stood (stood_by (pending_after idle a) s.says))
      (drafts_stated (stated_from (pending_by (pending_after idle a) s.line s.says) b))
      ∙ ap₂ ◌++◌ (sym (kinds_meant [] a s b p))
      (ap (λ q. draft_kinds (drafts_stated (stated_from q b))) (sym (pending_more idle a s)))) [] ss refl

-- ---- of arrays that hold the statements ss
module _ (ss : List Numbered) (kinds args lines bounds : List ℕ) (laid : Laid ss kinds args lines bounds)
    (headed : Headed ss) where
  starts : bounds ≡ starts_at drafts_by 0 ss
  starts = laid.bounds_held ∙ bounds_starts 0 ss

  -- 26
  pub inside_meant : faults26_in lines bounds kinds args ≡ faults26 ss
  inside_meant = rw (starts, laid.kinds_held, laid.args_held, laid.lines_held) (inside_of ss headed)

  -- THE KINDS inside blocks, if there is no 25 and no 26
  pub kinds_rewritten : block_faults ss ≡ []
      → rewritten_kinds (length lines) bounds kinds args ≡ draft_kinds (drafts_stated (stated_in (units_of ss)))
  kinds_rewritten e =
      let n : length lines ≡ length ss = ap length laid.lines_held ∙ length-map ss (λ (s : Numbered). s.line) in
      rw (n, stated_from_holds idle ss (shaped_text ss e))
      (rw (starts, laid.kinds_held, laid.args_held) (kinds_of ss headed))

  -- THE ARGUMENTS stay
  pub args_kept : block_faults ss ≡ [] → args ≡ draft_args (drafts_stated (stated_in (units_of ss)))
  args_kept e = laid.args_held ∙ sym (stated_args ss (shaped_text ss e))
