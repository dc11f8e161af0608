-- A command from its arguments, each after the one before it; any of them may be missing.
use Rattle.std.specs.Prelude.{ℕ, ◌≡◌, Bool, true, false, cond, eqb, length, List, Option, Some, None, option_map, refl}
use Rattle.command.specs.Command.{argument_at, with_hex, with_decimal, ended_by, hex_after, decimal_after, first_in, offset_in, width_in, value_in, given, ends_after, read_by, write_by, lookup_by, device_by}
use Rattle.command.specs.declared.line.Argument.{Argument}
use Rattle.command.specs.declared.line.Command.{Command}
use Rattle.command.specs.declared.line.Command.TheVariants.{Read, Write, Lookup}

-- a choice between a command and none, by its argument
chosen : (asks : ℕ → Command) (t : Bool) (v : ℕ) → cond t (Some (asks v)) None ≡ option_map asks (cond t (Some v) None)
chosen asks true v = refl
chosen asks false v = refl

module _ (line : List ℕ) where
  -- the last argument, in hex or decimal, of a command
  hex_last : (asks : ℕ → Command) (at : ℕ) (v : Option Argument) → argument_at line at 16 ≡ v → cond (ends_after line v) (Some (asks (given v))) None ≡ with_hex line at (λ a. ended_by line a.next (asks a.value))
  hex_last asks at None e = rw e
  hex_last asks at (Some v) e = rw e

  decimal_last : (asks : ℕ → Command) (at : ℕ) (v : Option Argument) → argument_at line at 10 ≡ v → cond (ends_after line v) (Some (asks (given v))) None ≡ with_decimal line at (λ a. ended_by line a.next (asks a.value))
  decimal_last asks at None e = rw e
  decimal_last asks at (Some v) e = rw e

  -- width and value of a write, where there is an offset
  width_value : (d o : ℕ) (at : ℕ) (w : Option Argument) → argument_at line at 10 ≡ w → cond (ends_after line (hex_after line w)) (Some (Write d o (given w) (given (hex_after line w)))) None ≡ with_decimal line at (λ width. with_hex line width.next (λ value. ended_by line value.next (Write d o width.value value.value)))
  width_value d o at None e = rw e
  width_value d o at (Some w) e = rw e (hex_last (λ v. Write d o w.value v) w.next (argument_at line w.next 16) refl)

  read_after : (d : ℕ) (at : ℕ) (o : Option Argument) → argument_at line at 16 ≡ o → cond (ends_after line (decimal_after line o)) (Some (Read d (given o) (given (decimal_after line o)))) None ≡ with_hex line at (λ offset. with_decimal line offset.next (λ width. ended_by line width.next (Read d offset.value width.value)))
  read_after d at None e = rw e
  read_after d at (Some o) e = rw e (decimal_last (λ w. Read d o.value w) o.next (argument_at line o.next 10) refl)

  write_after : (d : ℕ) (at : ℕ) (o : Option Argument) → argument_at line at 16 ≡ o → cond (ends_after line (hex_after line (decimal_after line o))) (Some (Write d (given o) (given (decimal_after line o)) (given (hex_after line (decimal_after line o))))) None ≡ with_hex line at (λ offset. with_decimal line offset.next (λ width. with_hex line width.next (λ value. ended_by line value.next (Write d offset.value width.value value.value))))
  write_after d at None e = rw e
  write_after d at (Some o) e = rw e (width_value d o.value o.next (argument_at line o.next 10) refl)

  read_first : (d : Option Argument) → first_in line ≡ d → cond (ends_after line (decimal_after line (hex_after line d))) (Some (Read (given d) (given (hex_after line d)) (given (decimal_after line (hex_after line d))))) None ≡ read_by line
  unfolding read_by
  read_first None e = rw e
  read_first (Some d) e = rw e (read_after d.value d.next (argument_at line d.next 16) refl)

  write_first : (d : Option Argument) → first_in line ≡ d → cond (ends_after line (hex_after line (decimal_after line (hex_after line d)))) (Some (Write (given d) (given (hex_after line d)) (given (decimal_after line (hex_after line d))) (given (hex_after line (decimal_after line (hex_after line d)))))) None ≡ write_by line
  unfolding write_by
  write_first None e = rw e
  write_first (Some d) e = rw e (write_after d.value d.next (argument_at line d.next 16) refl)

  lookup_first : (d : Option Argument) → first_in line ≡ d → cond (ends_after line (decimal_after line d)) (Some (Lookup (given d) (given (decimal_after line d)))) None ≡ lookup_by line
  unfolding lookup_by
  lookup_first None e = rw e
  lookup_first (Some d) e = rw e (decimal_last (λ w. Lookup d.value w) d.next (argument_at line d.next 10) refl)

  device_first : (asks : ℕ → Command) (d : Option Argument) → first_in line ≡ d → cond (ends_after line d) (Some (asks (given d))) None ≡ option_map asks (device_by line)
  unfolding device_by
  device_first asks None e = rw e
  device_first asks (Some d) e = rw e (chosen asks (eqb d.next (length line)) d.value)

  pub device_by_lem : (asks : ℕ → Command) (d : Option Argument) (t : Bool) → d ≡ first_in line → ends_after line d ≡ t → cond t (Some (asks (given d))) None ≡ option_map asks (device_by line)
  device_by_lem asks d t e h = let u = rw e at h in rw (e, ← u) (device_first asks (first_in line) refl)

  pub lookup_by_lem : (d w : Option Argument) (t : Bool) → d ≡ first_in line → w ≡ decimal_after line d → ends_after line w ≡ t → cond t (Some (Lookup (given d) (given w))) None ≡ lookup_by line
  lookup_by_lem d w t e g h = let u = rw (g, e) at h in rw (g, e, ← u) (lookup_first (first_in line) refl)

  pub read_by_lem : (d o w : Option Argument) (t : Bool) → d ≡ first_in line → o ≡ hex_after line d → w ≡ decimal_after line o → ends_after line w ≡ t → cond t (Some (Read (given d) (given o) (given w))) None ≡ read_by line
  read_by_lem d o w t e f g h = let u = rw (g, f, e) at h in rw (g, f, e, ← u) (read_first (first_in line) refl)

  pub write_by_lem : (d o w v : Option Argument) (t : Bool) → d ≡ first_in line → o ≡ hex_after line d → w ≡ decimal_after line o → v ≡ hex_after line w → ends_after line v ≡ t → cond t (Some (Write (given d) (given o) (given w) (given v))) None ≡ write_by line
  write_by_lem d o w v t e f g i h = let u = rw (i, g, f, e) at h in rw (i, g, f, e, ← u) (write_first (first_in line) refl)

  -- so a read and a write are told by the arguments that the line has in their places
  pub read_in : cond (ends_after line (width_in line)) (Some (Read (given (first_in line)) (given (offset_in line)) (given (width_in line)))) None ≡ read_by line
  read_in = read_by_lem (first_in line) (offset_in line) (width_in line) (ends_after line (width_in line)) refl refl refl refl

  pub write_in : cond (ends_after line (value_in line)) (Some (Write (given (first_in line)) (given (offset_in line)) (given (width_in line)) (given (value_in line)))) None ≡ write_by line
  write_in = write_by_lem (first_in line) (offset_in line) (width_in line) (value_in line) (ends_after line (value_in line)) refl refl refl refl refl
