-- What the answer of a constructor of the layers below tells of its arguments, where it is a refusal.
use Prim.Native.Nat.{ℕ, ◌<◌, ◌≤◌}
use mathlib.Core.Logic.{⊎_elim}
use mathlib.Core.Path.{◌≡◌, sym, ◌∙◌}
use Rattle.std.specs.Prelude.{Result, Ok, Err}
use Rattle.refusal.specs.declared.refusal.Refusal.{Refusal}
use Rattle.refusal.specs.declared.refusal.Refusal.TheVariants.{LongBody}
use Rattle.word.proofs.Tests.{below_or_not}
use Rattle.capability.specs.Size.{body_most}
use Rattle.capability.specs.Declaration.{capability, capability_of}
use Rattle.capability.specs.declared.declared.Capability.{Capability}
use Rattle.capability.proofs.Declarations.{capability_good, capability_bad}

pub capability_refused : (id n : ℕ) (r : Refusal) → capability_of id n ≡ Err r → (r ≡ LongBody) × (body_most < n)
capability_refused id n r e =
    ⊎_elim (λ (h : body_most < n). let z : ◌≡◌ {A = Result Capability Refusal} (Err r) (Err LongBody) = sym e ∙ capability_bad id n h in let q : r ≡ LongBody = cc in (q, h))
    (λ (h : n ≤ body_most). let z : ◌≡◌ {A = Result Capability Refusal} (Ok (capability id n)) (Err r) = sym (capability_good id n h) ∙ e in absurd (cc))
    (below_or_not body_most n)
