-- A quoted text as the list of its bytes (texts of ASCII alone).
use Rattle.std.specs.Prelude.{ℕ, List, [], ◌∷◌}
use Prim.Native.Char.{code}
use Prim.Native.String.{String, [] as none, ◌∷◌ as ◌◂◌}

abbrev pub bytes : String → List ℕ
bytes none = []
bytes (c ◂ cs) = code c ∷ bytes cs
