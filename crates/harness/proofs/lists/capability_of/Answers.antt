-- `capability_of`: a length of at most 253 makes a capability.
use Prim.Native.Nat.{◌≤◌, min}
use native.Mathlib.Omega.{arith}
use Rattle.capability.specs.Size.{body_most}
use Rattle.capability.proofs.Declarations.{capability_good}
use Rattle.harness.proofs.lists.capability_of.Goals as goal

pub returns : goal.returns
returns c =
    let n = min c.args.length body_most in
    let short : n ≤ body_most = omega arith in
    rw (c.unwrap_or.ensures, c.new.ensures, c.at_most-length.ensures, capability_good c.args.id n short)
