use mathlib.Core.Path.{◌≡◌, sym, ◌∙◌}
use native.Mathlib.Omega.{arith}
use Rattle.word.proofs.Searches.{any_none, any_more, any_never}
use Rattle.placement.specs.Keys.{key_count}
use Rattle.bus.specs.Lookup.{holds_at}
use Rattle.bus.proofs.Committed.{range_listed}
use Rattle.bus.proofs.Lookups.{lookup_width, lookup_hit, lookup_miss, holds_listed}
use Rattle.bus.proofs.memory_lookup.lookup.Goals as goal
use Rattle.bus.proofs.memory_lookup.lookup.Goals.{After-holds-held}

pub returns-then-not-known : goal.returns-then-not-known
returns-then-not-known c = sym (lookup_width _ _ _ (sym c.width_ok-known.ensures ∙ c.if-not-known.true))

pub loop-key-init : goal.loop-key-init
loop-key-init c = let a = c.args in any_none (holds_at a.bus a.address a.width)

-- what the call says of the BAR at the key
held : (c : After-holds-held) → c.holds-held.result ≡ holds_at c.args.bus c.args.address c.args.width c.loop-key.key
held c = c.holds-held.ensures ∙ rw (c.ranges_on-ranges.ensures, c.decoding_on-decoding.ensures) (holds_listed _ _ _ c.loop-key.key _ (omega arith))

pub returns-then-held : goal.returns-then-held
returns-then-held c =
    let l = c.loop-key in
    rw (c.ranges_on-ranges.ensures, range_listed c.args.bus l.key (record { start = 0; size = 0 }) (omega arith))
    (sym (lookup_hit _ _ _ l.key (sym c.width_ok-known.ensures ∙ c.if-not-known.false) (record { below = omega arith; before = any_never (holds_at _ _ _) l.key l.invariant; here = sym (held (goal.at.returns-then-held c).After-holds-held) ∙ c.if-held.true })))

pub loop-key-preserved : goal.loop-key-preserved
loop-key-preserved c =
    any_more (holds_at _ _ _) c.loop-key.key c.loop-key.invariant (sym (held (goal.at.loop-key-preserved c).After-holds-held) ∙ c.if-held.false)

pub returns : goal.returns
returns c =
    let l = c.loop-key in
    let e : l.key ≡ key_count = omega arith in
    sym (lookup_miss _ _ _ (sym c.width_ok-known.ensures ∙ c.if-not-known.false) (any_never (holds_at _ _ _) key_count (rw e at l.invariant)))
