-- Agreement: any two outcomes that a contract allows are equal. An outcome is the answer, then each lent buffer
-- afterwards; an entry without an answer has its buffer alone.
use Rattle.std.specs.Prelude.{◌≡◌}

-- of one thing
abbrev pub Agree : {A : Type 0} → (A → Type 0) → Type 0
Agree {A} C = (r s : A) → C r → C s → r ≡ s

-- of two: an answer and a buffer
abbrev pub Agree2 : {A B : Type 0} → (A → B → Type 0) → Type 0
Agree2 {A} {B} C = (r s : A) (a b : B) → C r a → C s b → (r ≡ s) × (a ≡ b)

-- of three: an answer and two buffers
abbrev pub Agree3 : {A B D : Type 0} → (A → B → D → Type 0) → Type 0
Agree3 {A} {B} {D} C = (r s : A) (a b : B) (c d : D) → C r a c → C s b d → (r ≡ s) × (a ≡ b) × (c ≡ d)

-- of four: an answer and three buffers
abbrev pub Agree4 : {A B D E : Type 0} → (A → B → D → E → Type 0) → Type 0
Agree4 {A} {B} {D} {E} C =
    (r s : A) (a b : B) (c d : D) (e f : E) → C r a c e → C s b d f → (r ≡ s) × (a ≡ b) × (c ≡ d) × (e ≡ f)

-- of five: an answer, three buffers, and further arrays that were lent
abbrev pub Agree5 : {A B D E L : Type 0} → (A → B → D → E → L → Type 0) → Type 0
Agree5 {A} {B} {D} {E} {L} C =
    (r s : A) (a b : B) (c d : D) (e f : E) (l m : L) → C r a c e l → C s b d f m
    → (r ≡ s) × (a ≡ b) × (c ≡ d) × (e ≡ f) × (l ≡ m)
