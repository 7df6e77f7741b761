-- The roles of the statements, and the kinds by them.
use Prim.Native.Nat.{ℕ}
use mathlib.Core.List.{List, map}
use mathlib.Core.Path.{◌≡◌, refl, sym, ap, ap₂, ◌∙◌}
use native.Mathlib.Omega.{arith}
use lib.ListN.{length, take}
use lib.Seq.{sets, length-take-le}
use Rattle.std.proofs.Common.{None}
use Rattle.std.proofs.lemmas.List.{take-map}
use Rattle.laws.specs.Places.{gather}
use Rattle.limits.specs.Limits.{most_statements}
use Rattle.blocks.specs.InsideWorking.{role_in, roles_in}
use Rattle.blocks.proofs.BlankRows.{map_replicate}
use Rattle.blocks.proofs.StatementsStand.{turned_stand}
use Rattle.blocks.proofs.KindsRenewed.{renewed_by, renewed_front, renewed_all}
use Rattle.blocks.proofs.rewrite.rewrite.Goals as goal

pub note_roles-requires : goal.note_roles-requires
note_roles-requires c =
    let turned = c.requires in (turned.few, turned_stand turned)

pub returns : goal.returns
returns c =
    let n = length c.args.lines.now in
    let bounds = c.args.bounds.now in
    let kinds = c.args.kinds.now in
    let roles = c.note_roles.new.roles in
    let long : length (take n roles) ≡ n =
    length-take-le n roles (omega (arith, c.note_roles.auto.roles, c.requires.few)) in
    let noted = c.note_roles.ensures ∙ ap (λ (l : List ℕ). sets l 0 (roles_in n bounds kinds c.args.args.now))
    (map_replicate role_in most_statements None) in
    renewed_all n bounds kinds c.args.args.now c.requires.few refl noted
    (c.renew_all.ensures
    ∙ ap₂ (λ (l : List ℕ) (m : ℕ). gather (renewed_by l bounds kinds) m 0) (sym (take-map role_in n roles)) long
    ∙ renewed_front n (map role_in roles) bounds kinds)
