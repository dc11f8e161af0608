-- `byte_ok` asks document 01’s questions in its order.
use borrow.Author.Tests.{eq-eqb, ne_eqb, le-leb, lt-leb, lt-ltb, le-ltb}
use Rattle.std.proofs.Math.Bool.{not-not}
use Rattle.config.specs.ConfigByte.{byte_ok}
use Rattle.config.proofs.config_byte.byte_ok.Goals as goal

pub returns-then-at-eq-CONFIG_CACHE_LINE_SIZE_OFFSET : goal.returns-then-at-eq-CONFIG_CACHE_LINE_SIZE_OFFSET
unfolding byte_ok
returns-then-at-eq-CONFIG_CACHE_LINE_SIZE_OFFSET c = rw (← c.value-at.ensures, eq-eqb _ _ c.if-at-eq-CONFIG_CACHE_LINE_SIZE_OFFSET.true)

pub returns-then-at-eq-CONFIG_LATENCY_TIMER_OFFSET : goal.returns-then-at-eq-CONFIG_LATENCY_TIMER_OFFSET
unfolding byte_ok
returns-then-at-eq-CONFIG_LATENCY_TIMER_OFFSET c =
    rw (← c.value-at.ensures, ne_eqb _ _ c.if-at-eq-CONFIG_CACHE_LINE_SIZE_OFFSET.false, eq-eqb _ _ c.if-at-eq-CONFIG_LATENCY_TIMER_OFFSET.true)

pub returns-then-at-eq-CONFIG_INTERRUPT_LINE_OFFSET : goal.returns-then-at-eq-CONFIG_INTERRUPT_LINE_OFFSET
unfolding byte_ok
returns-then-at-eq-CONFIG_INTERRUPT_LINE_OFFSET c =
    rw (← c.value-at.ensures, ne_eqb _ _ c.if-at-eq-CONFIG_CACHE_LINE_SIZE_OFFSET.false, ne_eqb _ _ c.if-at-eq-CONFIG_LATENCY_TIMER_OFFSET.false, eq-eqb _ _ c.if-at-eq-CONFIG_INTERRUPT_LINE_OFFSET.true)

pub returns-then-at-lt-CONFIG_STANDARD_HEADER_END : goal.returns-then-at-lt-CONFIG_STANDARD_HEADER_END
unfolding byte_ok
returns-then-at-lt-CONFIG_STANDARD_HEADER_END c =
    rw (← c.value-at.ensures, ne_eqb _ _ c.if-at-eq-CONFIG_CACHE_LINE_SIZE_OFFSET.false, ne_eqb _ _ c.if-at-eq-CONFIG_LATENCY_TIMER_OFFSET.false, ne_eqb _ _ c.if-at-eq-CONFIG_INTERRUPT_LINE_OFFSET.false, lt-leb _ _ c.if-at-lt-CONFIG_STANDARD_HEADER_END.true)

pub returns-then-space-at : goal.returns-then-space-at
unfolding byte_ok
returns-then-space-at c =
    rw (← c.value-at.ensures, ne_eqb _ _ c.if-at-eq-CONFIG_CACHE_LINE_SIZE_OFFSET.false, ne_eqb _ _ c.if-at-eq-CONFIG_LATENCY_TIMER_OFFSET.false, ne_eqb _ _ c.if-at-eq-CONFIG_INTERRUPT_LINE_OFFSET.false, le-leb _ _ c.if-at-lt-CONFIG_STANDARD_HEADER_END.false, le-ltb _ _ c.if-space-at.true)

pub returns : goal.returns
unfolding byte_ok
returns c =
    rw (← c.capability_at.ensures, c.is_none.ensures, not-not c.is_none.result, ← c.value-at.ensures, ne_eqb _ _ c.if-at-eq-CONFIG_CACHE_LINE_SIZE_OFFSET.false, ne_eqb _ _ c.if-at-eq-CONFIG_LATENCY_TIMER_OFFSET.false, ne_eqb _ _ c.if-at-eq-CONFIG_INTERRUPT_LINE_OFFSET.false, le-leb _ _ c.if-at-lt-CONFIG_STANDARD_HEADER_END.false, lt-ltb _ _ c.if-space-at.false)
