-- Reading goes on: one more statement that says something, or one more fault.
use Prim.Native.Nat.{ℕ, suc, ◌+◌, ◌*◌, ◌≤◌, ◌<◌}
use mathlib.Core.Path.{◌≡◌, refl, sym, ap, ap₂, ◌∙◌}
use mathlib.Core.Bool.{Bool}
use mathlib.Core.List.{List, [], ◌∷◌, ◌++◌, map, append_assoc, append-nil}
use native.Mathlib.Omega.{arith}
use native.Mathlib.Nat.{add-zero, zero-add}
use native.Mathlib.Numerals.{add-one}
use lib.ListN.{length, take, drop, set, length-append, length-map}
use lib.Seq.{sets, sets-eq, take_at, take-suc-set, length-take-le}
use Rattle.limits.specs.Limits.{fault_bytes}
use Rattle.laws.specs.Lists.{concat_map}
use Rattle.laws.proofs.Lists.{concat_append}
use Rattle.laws.proofs.Concats.{map_append}
use Rattle.laws.proofs.Sets.{sets_append}
use Rattle.deck.specs.declared.Spot.{Spot}
use Rattle.deck.specs.Reading.{Statement}
use Rattle.deck.specs.Reports.{Report, report}
use Rattle.deck.specs.Next.{statements_from, lines_at}
use Rattle.deck.specs.declared.Cursor.{Cursor}
use Rattle.deck.specs.Walks.{Walk}
use Rattle.drafts.specs.Tree.{Says}
use Rattle.drafts.specs.Drafts.{Draft, drafts_of}
use Rattle.sheet.specs.Sheet.{Told, says, faulty, Sheet, Numbered, said, Fault, fault_at_spot}
use Rattle.sheet.specs.Sheet.{statement_faults, entry_of}
use Rattle.sheet.specs.Sheet.{fault_entry, fault_list}
use Rattle.sheet.specs.Reader.{told, sheet_of}
use Rattle.sheet.specs.Layout.{drafts_in, draft_kinds, draft_args, bounds_from}
use Rattle.sheet.proofs.Entries.{list_length}
use Rattle.translator.specs.declared.SoFar.{SoFar}
use Rattle.translator.specs.Working.{Progress, ReadThrough}

-- ---- rows written behind what is held

-- what is written from a place on keeps what stands before it, and stands behind that
pub take_sets : (l : List ℕ) (d : ℕ) (vs : List ℕ) → d + length vs ≤ length l
    → take (d + length vs) (sets l d vs) ≡ take d l ++ vs
take_sets l d vs h =
    let e : length (take d l ++ vs) ≡ d + length vs =
    length-append (take d l) vs ∙ ap (λ (n : ℕ). n + length vs) (length-take-le d l (omega arith)) in
    rw (sets-eq vs l d h) (take_at (take d l ++ vs) (drop (d + length vs) l) (d + length vs) e)

-- the same of a row that is held before it, read off drafts
held_more : (l : List ℕ) (m : Draft → ℕ) (d : ℕ) (ds es all : List Draft) → d + length es ≤ length l
    → take d l ≡ map m ds → all ≡ ds ++ es
    → take (d + length es) (sets l d (map m es)) ≡ map m all
held_more l m d ds es all h e q =
    let n : length (map m es) ≡ length es = length-map es m in
    ap (λ (k : ℕ). take (d + k) (sets l d (map m es))) (sym n)
    ∙ take_sets l d (map m es) (rw n h)
    ∙ ap (λ (r : List ℕ). r ++ map m es) e
    ∙ sym (map_append m ds es)
    ∙ ap (map m) (sym q)

-- one number more
take_set : (l : List ℕ) (s v : ℕ) (row : List ℕ) → s < length l → take s l ≡ row
    → take (s + 1) (set l s v) ≡ row ++ (v ∷ [])
take_set l s v row h e = rw add-one (take-suc-set l s v h ∙ ap (λ (r : List ℕ). r ++ (v ∷ [])) e)

-- the same behind one more
take_set' : (l : List ℕ) (s v : ℕ) (row : List ℕ) → s + 1 < length l → take (suc s) l ≡ row
    → take (suc (s + 1)) (set l (s + 1) v) ≡ row ++ (v ∷ [])
take_set' l s v row h e =
    take-suc-set l (s + 1) v h ∙ ap (λ (r : List ℕ). r ++ (v ∷ [])) (ap (λ (k : ℕ). take k l) (add-one s) ∙ e)

lines_snoc : (ss₁ ss₀ : List Numbered) (s : Numbered) → ss₁ ≡ ss₀ ++ (s ∷ [])
    → map (λ (z : Numbered). z.line) ss₁ ≡ map (λ (z : Numbered). z.line) ss₀ ++ (s.line ∷ [])
lines_snoc ss₁ ss₀ s e = ap (map (λ (z : Numbered). z.line)) e ∙ map_append (λ (z : Numbered). z.line) ss₀ (s ∷ [])

-- ---- one report more
module _ (done : Sheet) (r : Report (Told Spot)) where
  said_snoc : said (done ++ (r ∷ [])) ≡ said done ++ said (r ∷ [])
  said_snoc = concat_append _ done (r ∷ [])

  faults_snoc : statement_faults (done ++ (r ∷ [])) ≡ statement_faults done ++ statement_faults (r ∷ [])
  faults_snoc = concat_append _ done (r ∷ [])

drafts_snoc : (ss : List Numbered) (s : Numbered) → drafts_in (ss ++ (s ∷ [])) ≡ drafts_in ss ++ drafts_of s.says
unfolding concat_map
drafts_snoc ss s =
    concat_append (λ (z : Numbered). drafts_of z.says) ss (s ∷ [])
    ∙ ap (λ (r : List Draft). drafts_in ss ++ r) (append-nil (drafts_of s.says))

bounds_snoc : (o : ℕ) (ss : List Numbered) (s : Numbered)
    → bounds_from o (ss ++ (s ∷ []))
    ≡ bounds_from o ss ++ ((o + length (drafts_in ss) + length (drafts_of s.says)) ∷ [])
unfolding bounds_from concat_map
bounds_snoc o [] s = rw add-zero
bounds_snoc o (z ∷ ss) s =
    let e : o + length (drafts_of z.says) + length (drafts_in ss) ≡ o + length (drafts_of z.says ++ drafts_in ss) =
    omega (arith, length-append (drafts_of z.says) (drafts_in ss)) in
    ap (λ (r : List ℕ). o ∷ r) (bounds_snoc (o + length (drafts_of z.says)) ss s ∙ rw e)

list_snoc : (fs : List Fault) (f : Fault) → fault_list (fs ++ (f ∷ [])) ≡ fault_list fs ++ fault_entry f
unfolding fault_list concat_map
list_snoc fs f = concat_append fault_entry fs (f ∷ [])
    ∙ ap (λ (r : List ℕ). concat_map fault_entry fs ++ r) (append-nil (fault_entry f))

-- ---- the beginning
module _ (text list : List ℕ) (kinds args lines bounds : List ℕ) where
  pub progress_first : take 1 bounds ≡ 0 ∷ []
      → Progress text list (record { at = 0; line = 1 })
      (record { statements = 0; drafts = 0; faults = 0 }) kinds args lines bounds list
  unfolding sheet_of concat_map bounds_from fault_list
  progress_first b =
      record {
        done = [];
        split = refl;
        lawful = omega arith;
        statements = refl;
        drafts = refl;
        faults = refl;
        kinds_held = refl;
        args_held = refl;
        lines_held = refl;
        bounds_held = b;
        listed = refl;
        short = omega arith;
        within = omega arith;
      }

-- ---- one statement more, found at the cursor c
module _ {text list₀ kinds args lines bounds list : List ℕ} {c : Cursor} {n : SoFar}
    (p : Progress text list₀ c n kinds args lines bounds list) {f s m k : ℕ} {d g : Bool}
    {nx : Cursor} (w : Walk text c f s m k d g nx) where
  here : Told Spot → Report (Told Spot)
  here t = record { line = f; what = t }

  split_next : {t : Told Spot} → told (lines_at text s m) d ≡ t
      → sheet_of text ≡ (p.done ++ (here t ∷ [])) ++ map (report told) (statements_from text nx)
  unfolding here
  split_next {t} e =
      p.split
      ∙ ap (λ (r : List Statement). p.done ++ map (report told) r) w.reads
      ∙ rw e (sym (append_assoc p.done (here t ∷ []) (map (report told) (statements_from text nx))))

  -- it says x: its drafts stand behind those before it, its number and the end of its drafts are noted
  pub progress_said : (x : Says) → told (lines_at text s m) d ≡ says x → n.drafts + length (drafts_of x) ≤ nx.at
      → n.drafts + length (drafts_of x) ≤ length text
      → n.drafts + length (drafts_of x) ≤ length kinds → n.drafts + length (drafts_of x) ≤ length args
      → n.statements < length lines → n.statements + 1 < length bounds
      → Progress text list₀ nx
      (record { statements = n.statements + 1; drafts = n.drafts + length (drafts_of x); faults = n.faults })
      (sets kinds n.drafts (draft_kinds (drafts_of x))) (sets args n.drafts (draft_args (drafts_of x)))
      (set lines n.statements f)
      (set bounds (n.statements + 1) (n.drafts + length (drafts_of x))) list
  unfolding here concat_map
  progress_said x e short within rk ra rl rb =
      let done : Sheet = p.done ++ (here (says x) ∷ []) in
      let one : Numbered = record { line = f; says = x } in
      let more : said done ≡ said p.done ++ (one ∷ []) = said_snoc p.done (here (says x)) in
      let same : statement_faults done ≡ statement_faults p.done =
      faults_snoc p.done (here (says x)) ∙ append-nil (statement_faults p.done) in
      let all : drafts_in (said done) ≡ drafts_in (said p.done) ++ drafts_of x =
      ap drafts_in more ∙ drafts_snoc (said p.done) one in
      record {
        done = done;
        split = split_next e;
        lawful = w.lawful;
        statements = omega (arith, p.statements, ap length more, length-append (said p.done) (one ∷ []));
        drafts = omega (arith, p.drafts, ap length all, length-append (drafts_in (said p.done)) (drafts_of x));
        faults = p.faults ∙ sym (ap length same);
        kinds_held = held_more kinds (λ (z : Draft). z.kind) n.drafts (drafts_in (said p.done)) (drafts_of x) _ rk
            p.kinds_held all;
        args_held = held_more args (λ (z : Draft). z.arg) n.drafts (drafts_in (said p.done)) (drafts_of x) _ ra
            p.args_held all;
        lines_held = take_set lines n.statements f _ rl p.lines_held
            ∙ sym (lines_snoc (said done) (said p.done) one more);
        bounds_held =
            take_set' bounds n.statements (n.drafts + length (drafts_of x)) _ rb p.bounds_held
            ∙ rw p.drafts (sym (ap (bounds_from 0) more ∙ bounds_snoc 0 (said p.done) one ∙ rw zero-add));
        listed = p.listed ∙ ap (λ (fs : List Fault). sets list₀ 0 (fault_list fs)) (sym same);
        short = short;
        within = within;
      }

  -- it has a fault: what is held stays, and the fault is listed behind those before it
  pub progress_faulty : (code : ℕ) (q : Spot) → told (lines_at text s m) d ≡ faulty code q
      → (kinds' args' list' : List ℕ)
      → take n.drafts kinds' ≡ take n.drafts kinds → take n.drafts args' ≡ take n.drafts args
      → list' ≡ sets list (fault_bytes * n.faults) (entry_of (fault_at_spot f code q))
      → Progress text list₀ nx (record { statements = n.statements; drafts = n.drafts; faults = n.faults + 1 })
      kinds' args' lines bounds list'
  unfolding here concat_map fault_entry
  progress_faulty code q e kinds' args' list' hk ha hl =
      let done : Sheet = p.done ++ (here (faulty code q) ∷ []) in
      let old : List Fault = statement_faults p.done in
      let new : Fault = fault_at_spot f code q in
      let more : statement_faults done ≡ old ++ (new ∷ []) = faults_snoc p.done (here (faulty code q)) in
      let same : said done ≡ said p.done =
      said_snoc p.done (here (faulty code q)) ∙ append-nil (said p.done) in
      let at : fault_bytes * n.faults ≡ 0 + length (fault_list old) = omega (arith, p.faults, list_length old) in
      record {
        done = done;
        split = split_next e;
        lawful = w.lawful;
        statements = p.statements ∙ sym (ap length same);
        drafts = p.drafts ∙ sym (ap (λ (ss : List Numbered). length (drafts_in ss)) same);
        faults = omega (arith, p.faults, ap length more, length-append old (new ∷ []));
        kinds_held = hk ∙ p.kinds_held ∙ sym (ap (λ (ss : List Numbered). draft_kinds (drafts_in ss)) same);
        args_held = ha ∙ p.args_held ∙ sym (ap (λ (ss : List Numbered). draft_args (drafts_in ss)) same);
        lines_held = p.lines_held ∙ sym (ap (map (λ (z : Numbered). z.line)) same);
        bounds_held = p.bounds_held ∙ sym (ap (bounds_from 0) same);
        listed =
            hl ∙ ap₂ (λ (l : List ℕ) (i : ℕ). sets l i (fault_entry new)) p.listed at
            ∙ sym (sets_append list₀ 0 (fault_list old) (fault_entry new))
            ∙ ap (sets list₀ 0) (sym (ap fault_list more ∙ list_snoc old new));
        short = omega (arith, p.short, w.further);
        within = p.within;
      }

-- ---- the end: nothing more is found
module _ {text list₀ kinds args lines bounds list : List ℕ} {c : Cursor} {n : SoFar}
    (p : Progress text list₀ c n kinds args lines bounds list) where
  -- all is done
  pub all_done : statements_from text c ≡ [] → p.done ≡ sheet_of text
  all_done e = sym (p.split ∙ ap (λ (r : List Statement). p.done ++ map (report told) r) e ∙ append-nil p.done)

  pub progress_last : statements_from text c ≡ [] → ReadThrough text list₀ n kinds args lines bounds list
  progress_last e =
      let q = all_done e in
      record {
        statements = p.statements ∙ ap (λ (ss : Sheet). length (said ss)) q;
        drafts = p.drafts ∙ ap (λ (ss : Sheet). length (drafts_in (said ss))) q;
        faults = p.faults ∙ ap (λ (ss : Sheet). length (statement_faults ss)) q;
        laid =
            record {
              kinds_held = p.kinds_held ∙ ap (λ (ss : Sheet). draft_kinds (drafts_in (said ss))) q;
              args_held = p.args_held ∙ ap (λ (ss : Sheet). draft_args (drafts_in (said ss))) q;
              lines_held = p.lines_held ∙ ap (λ (ss : Sheet). map (λ (z : Numbered). z.line) (said ss)) q;
              bounds_held = p.bounds_held ∙ ap (λ (ss : Sheet). bounds_from 0 (said ss)) q;
            };
        listed = p.listed ∙ ap (λ (ss : Sheet). sets list₀ 0 (fault_list (statement_faults ss))) q;
        within = p.within;
      }
