-- What two lists share is shared by what is made of them, part by part: of statements their reports, of reports faults.
use Prim.Native.Nat.{ℕ, ◌≤◌, ◌<◌}
use mathlib.Core.Path.{◌≡◌, ap, ap₂, ◌∙◌}
use mathlib.Core.List.{List, ◌++◌, map}
use Rattle.laws.specs.Every.{Every}
use Rattle.deck.specs.Later.{Begin, Ends, Share}

-- ---- H makes a list of a list, part by part
module _ {A B : Type 0} (H : List A → List B) (append : (x y : List A) → H (x ++ y) ≡ H x ++ H y) where
  -- what begins alike is made into what begins alike
  pub begin_made : {front a b : List A} → Begin front a b → Begin (H front) (H a) (H b)
  begin_made {front} {a} {b} w =
      record {
        rest_old = H w.rest_old;
        rest_new = H w.rest_new;
        old = ap H w.old ∙ append front w.rest_old;
        new = ap H w.new ∙ append front w.rest_new;
      }

  -- numbers stay as they are, and are raised alike
  module _ (line : A → ℕ) (line' : B → ℕ) (raise : ℕ → A → A) (lift : ℕ → B → B)
      (kept : (P : ℕ → Type 0) (x : List A) → Every (λ (a : A). P (line a)) x → Every (λ (b : B). P (line' b)) (H x))
      (raised : (k : ℕ) (x : List A) → H (map (raise k) x) ≡ map (lift k) (H x)) where
    -- what ends with a tail is made into what ends with that tail's
    ends_made : {front tail all : List A} {n : ℕ} → Ends line raise front tail n all
        → Ends line' lift (H front) (H tail) n (H all)
    ends_made {front} {tail} {all} {n} w =
        let first = append front w.between in
        let last = raised n tail in
        record {
          between = H w.between;
          parts = ap H w.parts ∙ append (front ++ w.between) (map (raise n) tail) ∙ ap₂ ◌++◌ first last;
          before = rw (← first) (kept (λ (k : ℕ). k ≤ n) (front ++ w.between) w.before);
          behind = rw (← last) (kept (λ (k : ℕ). n < k) (map (raise n) tail) w.behind);
        }

    -- what is shared is made into what is shared
    pub share_made : {front tail a b : List A} {m n : ℕ} → Share line raise front tail m n a b
        → Share line' lift (H front) (H tail) m n (H a) (H b)
    share_made w = record { old = ends_made w.old; new = ends_made w.new }
