-- Every bus after a history is sound.
use mathlib.Core.List.{List, [], ◌∷◌, ◌++◌}
use mathlib.Core.Path.{◌≡◌, refl}
use Prim.Native.Nat.{ℕ}
use Rattle.address.specs.Limits.{limits}
use Rattle.declaration.specs.declared.answer.Declaration.{Declaration}
use Rattle.declaration.proofs.Goods.{limits_within}
use Rattle.bus.specs.Sound.{Sound, SoundStart}
use Rattle.bus.specs.declared.state.Bus.{Bus}
use Rattle.bus.proofs.SoundAccesses.{sound_access, sound_restored}
use Rattle.bus.proofs.Sounds.{start_sound}
use Rattle.enumeration.specs.History.{Step, reads, writes, looks_up, resets, after, History, ran}
use Rattle.enumeration.specs.Truth.{Accepted, declared, started}

module _ (d : Declaration) where
  pub sound_after : (b : Bus) → Sound d b → (t : Step) → Sound d (after b t)
  unfolding after
  sound_after b s (reads device offset width) = s
  sound_after b s (writes device offset width value) = sound_access d b s device offset width value
  sound_after b s (looks_up address width) = s
  sound_after b s resets = sound_restored d b s

  pub sound_ran : (b : Bus) → Sound d b → (h : History) → Sound d (ran b h)
  unfolding ran
  sound_ran b s [] = s
  sound_ran b s (t ∷ h) = sound_ran (after b t) (sound_after b s t) h

-- a history after another goes on from the bus after the first
pub ran_append : (b : Bus) (h g : History) → ran b (h ++ g) ≡ ran (ran b h) g
unfolding ran
ran_append b [] g = refl
ran_append b (t ∷ h) g = ran_append (after b t) h g

pub ran_last : (b : Bus) (h : History) (t : Step) → ran b (h ++ (t ∷ [])) ≡ after (ran b h) t
unfolding ran
ran_last b h t = ran_append b h (t ∷ [])

module _ (file : List ℕ) (a : Accepted file) where
  pub accepted_start : SoundStart (declared file) (started file)
  accepted_start = start_sound limits limits_within file a.bytes a.answer

  pub history_sound : (h : History) → Sound (declared file) (ran (started file) h)
  history_sound h = sound_ran (declared file) (started file) accepted_start.sound h
