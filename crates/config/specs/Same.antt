-- What no access and no reset changes (proofs/Kept.antt shows it): laws speak of it, no promise does.
use Rattle.std.specs.Prelude.{ℕ, ◌≡◌}
use Rattle.config.specs.Space.{space_of}
use Rattle.config.specs.State.{bar_at}
use Rattle.config.specs.declared.state.FunctionState.{FunctionState}

-- what a function is, apart from what a guest may change: the size of its config space, power-on image, masks, capabilities and effects, and the plan of each slot
pub record Same (f g : FunctionState) : Type 0 where
  pub space : space_of g ≡ space_of f
  pub power_on : g.power_on ≡ f.power_on
  pub mask : g.mask ≡ f.mask
  pub placed : g.placed ≡ f.placed
  pub plans : (i : ℕ) → (bar_at g.bars i).plan ≡ (bar_at f.bars i).plan
