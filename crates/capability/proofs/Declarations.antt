-- What is declared: which bodies are taken, and what stands where after one more.
use Prim.Native.Nat.{ℕ, ◌<◌, ◌≤◌}
use mathlib.Core.Bool.{Bool, true, false, cond}
use mathlib.Core.Path.{◌≡◌, refl}
use native.Mathlib.Omega.{arith}
use borrow.Author.Tests.{le-leb, lt-leb, leb-true}
use lib.Dec.{leb}
use lib.ListN.{length}
use lib.Seq.{get_or-set_same, get_or-set_other}
use Rattle.std.proofs.Common.{Ok, Err}
use Rattle.refusal.specs.declared.refusal.Refusal.TheVariants as refusal
use Rattle.capability.specs.Size.{body_most}
use Rattle.capability.specs.Declaration.{capability, capability_of, no_capability, declared_capability, with_capability}
use Rattle.capability.specs.declared.declared.Capability.{Capability}
use Rattle.capability.specs.declared.declared.Capabilities.{Capabilities}

-- refusal 10 is given exactly above 253 bytes
pub capability_good : (id length : ℕ) → length ≤ body_most → capability_of id length ≡ Ok (capability id length)
unfolding capability_of
capability_good id length h = rw (le-leb length body_most h)

pub capability_bad : (id length : ℕ) → body_most < length → capability_of id length ≡ Err refusal.LongBody
unfolding capability_of
capability_bad id length h = rw (lt-leb length body_most h)

by_good : (t : Bool) (id length : ℕ) (k : Capability) → cond t (Ok (capability id length)) (Err refusal.LongBody) ≡ Ok k → (k ≡ capability id length) × (t ≡ true)
by_good true id length k e = (cc, refl)
by_good false id length k e = let z : ◌≡◌ {A = ℕ} 0 1 = cc in absurd (omega arith)

-- the only capabilities are those with a body of 253 bytes at most
pub capability_is : (id length : ℕ) (k : Capability) → capability_of id length ≡ Ok k → (k ≡ capability id length) × (length ≤ body_most)
unfolding capability_of
capability_is id length k e = let r = by_good (leb length body_most) id length k e in (r.0, leb-true length body_most r.1)

-- one more: it stands at the end, and the others stay
pub added_last : (d : Capabilities) (c : Capability) → d.count < length d.list → declared_capability (with_capability d c) d.count ≡ c
added_last d c h = get_or-set_same d.list d.count c no_capability h

pub added_other : (d : Capabilities) (c : Capability) (k : ℕ) → (k ≡ d.count → ⊥) → declared_capability (with_capability d c) k ≡ declared_capability d k
added_other d c k h = get_or-set_other d.list d.count k c no_capability h
