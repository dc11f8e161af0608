-- A function's reset (document 01, "Access and reset": "Reset restores every function's live image and BARs, ends probing, then adds 1 to each revision. One already at its largest stays").
use Rattle.std.specs.Prelude.{◌+◌, min, cond, map, eqb, Ok, Err}
use Rattle.refusal.specs.declared.refusal.Refusal.TheVariants.{RevisionExhausted}
use Rattle.bar.specs.State.{reset_of}
use Rattle.config.specs.Command.{largest_revision}
use Rattle.config.specs.declared.state.FunctionState.{FunctionState}
use Rattle.config.specs.declared.reset_step.ResetDone.{ResetDone}

-- the image and the BARs as at power-on, and one more revision while there is one; plans, masks and capabilities stay
abbrev pub restored : FunctionState → FunctionState
restored f =
    record { live = f.power_on; power_on = f.power_on; mask = f.mask; bars = map reset_of f.bars; placed = f.placed; revision = min (f.revision + 1) largest_revision }

unfoldable pub reset_done : FunctionState → ResetDone
reset_done f = record { answer = cond (eqb f.revision largest_revision) (Err RevisionExhausted) (Ok tt); state = restored f }
