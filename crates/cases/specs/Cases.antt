-- The cases of document 01 marked P, as one statement over one list. Each question is put to the definition that the promises cite.
use Rattle.std.specs.Prelude.{ℕ, true, false, List, [], map, ◌∷◌, length, take, Some, None, Ok, Err, Result}
use Rattle.refusal.specs.declared.refusal.Refusal.{Refusal}
use Rattle.refusal.specs.Number.{accepted}
use Rattle.refusal.specs.Refusal.{number_of, answer_number}
use Rattle.address.specs.Layout.{config_space_size}
use Rattle.address.specs.Check.{access_of}
use Rattle.bar.specs.Register.{size_mask, class_of}
use Rattle.bar.specs.State.{asks}
use Rattle.bar.specs.declared.bar_state.BarWrite.{BarWrite}
use Rattle.bar.specs.declared.bar_state.BarWrite.TheVariants as bar_write
use Rattle.bar.specs.declared.bar_state.BarState.{BarState}
use Rattle.bar.specs.declared.range.Aperture.{Aperture}
use Rattle.capability.specs.Declaration.{capability_of, none_declared}
use Rattle.capability.specs.Layout.{layout_of, placed_or_nothing}
use Rattle.capability.specs.Touch.{touch_of, Touch}
use Rattle.capability.specs.declared.placed.Placed.{Placed}
use Rattle.capability.specs.declared.layout.LayoutRefusal.{LayoutRefusal}
use Rattle.capability.specs.declared.placed.PlacedCapability.{PlacedCapability}
use Rattle.config.specs.Read.{read_of}
use Rattle.config.specs.Write.{write_of}
use Rattle.config.specs.declared.read_step.ReadAnswer.{ReadAnswer}
use Rattle.config.specs.declared.read_step.ReadAnswer.TheVariants as read_answer
use Rattle.placement.specs.Answer.{placement_of, placement_number}
use Rattle.placement.specs.Examples.{p9_aperture, one_automatic}
use Rattle.placement.specs.declared.declared_bars.DeclaredBars.{DeclaredBars}
use Rattle.cases.specs.Settings.{declare, p8_effect, p8_placed, plain, committed_at}

-- what document 01 asks
pub data Question : Type 0 where
  mask : ℕ → Question
  dword : ℕ → Question
  write : BarState → ℕ → ℕ → ℕ → Question
  check : ℕ → ℕ → Question
  bodies : List ℕ → Question
  starts : List ℕ → Question
  body : ℕ → Question
  effect_at : ℕ → ℕ → Question
  place : Aperture → DeclaredBars → Question
  written : ℕ → ℕ → ℕ → Question

-- and what it answers: a refusal by its number, 0 where there is none
pub data Reply : Type 0 where
  number_is : ℕ → Reply
  numbers_are : List ℕ → Reply
  asks_for : BarWrite → Reply
  touches : Touch → Reply
  reads : Result ReadAnswer Refusal → Reply
  refusal_is : ℕ → Reply
  refusal_at : ℕ → ℕ → Reply

-- a layout that is refused names the capability's index too
abbrev pub layout_reply : Result Placed LayoutRefusal → Reply
layout_reply (Ok p) = refusal_is accepted
layout_reply (Err r) = refusal_at (number_of r.refusal) r.index

abbrev pub touch_reply : Touch → Reply
touch_reply (Ok None) = touches (Ok None)
touch_reply (Ok (Some hit)) = touches (Ok (Some hit))
touch_reply (Err r) = refusal_is (number_of r)

abbrev pub answer : Question → Reply
answer (mask size) = number_is (size_mask size)
answer (dword d) = asks_for (class_of d)
answer (write b lane width value) = asks_for (asks b lane width value)
answer (check o w) = refusal_is (answer_number (access_of config_space_size o w))
answer (bodies ns) = layout_reply (layout_of config_space_size (declare none_declared ns))
answer (starts ns) = numbers_are (map (λ (p : PlacedCapability). p.offset.0) (take (length ns) (placed_or_nothing (layout_of config_space_size (declare none_declared ns))).capabilities))
answer (body n) = refusal_is (answer_number (capability_of 9 n))
answer (effect_at o w) = touch_reply (touch_of p8_placed o w false)
answer (written o w v) = reads (read_of (write_of plain o w v).state o w)
answer (place aperture bars) = refusal_is (placement_number (placement_of aperture bars))

infixl 20 ◌gives◌
pub data Case : Type 0 where
  ◌gives◌ : Question → Reply → Case

abbrev pub asked : Case → Reply
asked (q gives r) = answer q

abbrev pub told : Case → Reply
told (q gives r) = r

unfoldable pub cases : List Case
cases =
    -- P1 Masks: 16 gives 0xfffffff0, 0x1000 gives 0xfffff000, 4 GiB gives 0.
    (mask 16 gives number_is 0xfffffff0) ∷
    (mask 0x1000 gives number_is 0xfffff000) ∷
    (mask 0x1_0000_0000 gives number_is 0) ∷
    -- P2 Dword 0xfffffff0 relocates, 0xffffffff probes.
    (dword 0xfffffff0 gives asks_for (bar_write.Relocate 0xfffffff0)) ∷
    (dword 0xffffffff gives asks_for bar_write.Probe) ∷
    -- P3 Committed 0xffffff00: byte 0xff at lane 0 probes.
    (write (committed_at 0x100 0xffffff00 false) 0 1 0xff gives asks_for bar_write.Probe) ∷
    -- P4 Size 0x1000, committed 0x80001000, probing: word 0x9000 at lane 2 gives candidate 0x90001000.
    (write (committed_at 0x1000 0x80001000 true) 2 2 0x9000 gives asks_for (bar_write.Relocate 0x90001000)) ∷
    -- P5 Word 0xffff at 0x04 from power-on reads 0x0406.
    (written 0x04 2 0xffff gives reads (Ok (read_answer.Value 0x0406))) ∷
    -- P6 Bodies 4, 0, 178 start at 0x40, 0x48, 0x4c and fit; with 179 the third is refused, 13.
    (starts (4 ∷ 0 ∷ 178 ∷ []) gives numbers_are (0x40 ∷ 0x48 ∷ 0x4c ∷ [])) ∷
    (bodies (4 ∷ 0 ∷ 178 ∷ []) gives refusal_is 0) ∷
    (bodies (4 ∷ 0 ∷ 179 ∷ []) gives refusal_at 13 2) ∷
    -- P7 A lone body of 190 fits; 191 gives 13; 254 gives 10.
    (bodies (190 ∷ []) gives refusal_is 0) ∷
    (bodies (191 ∷ []) gives refusal_at 13 0) ∷
    (body 254 gives refusal_is 10) ∷
    -- P8 Effect offset 3, length 2 at 0x40: byte 0x43 matches; word 0x42 and dword 0x44 give 19.
    (effect_at 0x43 1 gives touches (Ok (Some (record { capability_id = 9; region = p8_effect; offset = 3; region_offset = 0 })))) ∷
    (effect_at 0x42 2 gives refusal_is 19) ∷
    (effect_at 0x44 4 gives refusal_is 19) ∷
    -- P9 Aperture 0x80000010 to 0x80001010, automatic 0x1000: 17.
    (place p9_aperture (one_automatic 0x1000) gives refusal_is 17) ∷
    -- P10 0xfc width 4 passes; 0x100, width 8, offset 1 width 2 give 18.
    (check 0xfc 4 gives refusal_is 0) ∷
    (check 0x100 1 gives refusal_is 18) ∷
    (check 0 8 gives refusal_is 18) ∷
    (check 1 2 gives refusal_is 18) ∷
    []
