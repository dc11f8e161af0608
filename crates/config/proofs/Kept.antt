-- What no write, relocation or reset changes, and what a write may change: the laws that the truth of enumeration rests on.
use Rattle.std.specs.Prelude.{Option, Some, None}
use Prim.Native.Nat.{ℕ, ◌+◌, ◌<◌, ◌≤◌}
use mathlib.Core.List.{List, map}
use mathlib.Core.Logic.{◌⊎◌, inl, inr, ⊎_elim}
use mathlib.Core.Path.{◌≡◌, refl}
use lib.ListN.{length, get_or, set, get_or-map}
use lib.Seq.{get_or-set_same, get_or-set_other, set_out}
use Rattle.refusal.specs.Number.{accepted}
use Rattle.word.proofs.Tests.{below_or_not, same_or_not}
use Rattle.word.specs.Bit.{bit}
use Rattle.word.proofs.Stores.{stored_out, stored_bit}
use Rattle.address.specs.Kinds.{index_of}
use Rattle.address.specs.declared.slot.Slot.{Slot}
use Rattle.bar.specs.State.{reset_of, probed, relocated}
use Rattle.bar.specs.declared.bar_state.BarState.{BarState}
use Rattle.config.specs.Command.{Follows, stays}
use Rattle.config.specs.Same.{Same}
use Rattle.config.specs.Space.{space_of}
use Rattle.config.specs.State.{bar_at, slot_at, with_bar}
use Rattle.bar.specs.State.{no_state}
use Rattle.config.specs.Write.{write_of, relocated_at}
use Rattle.refusal.specs.Refusal.{answer_number}
use Rattle.config.specs.Reset.{reset_done}
use Rattle.config.specs.declared.state.FunctionState.{FunctionState}
use Rattle.config.proofs.WriteCases.{stored_in, write_by_lem, state_by}
use Rattle.config.proofs.Commands.{revision_follows}
use Rattle.config.proofs.Resets.{reset_state}

pub same_refl : (f : FunctionState) → Same f f
same_refl f = record { space = refl; power_on = refl; mask = refl; placed = refl; plans = λ i. refl }

-- another BAR in slot i leaves the other slots
pub other_slot : (bars : List BarState) (i j : ℕ) (b : BarState) → (j ≡ i → ⊥) → bar_at (set bars i b) j ≡ bar_at bars j
other_slot bars i j b h = get_or-set_other bars i j b no_state h

-- and one that is like the old one in some way leaves all alike
same_slots : {A : Type 0} (g : BarState → A) (bars : List BarState) (i : ℕ) (b : BarState) → g b ≡ g (bar_at bars i) → (j : ℕ) → g (bar_at (set bars i b) j) ≡ g (bar_at bars j)
same_slots g bars i b e j =
    ⊎_elim (λ (l : i < length bars). ⊎_elim (λ (q : j ≡ i). rw (q, get_or-set_same bars i b no_state l) e) (λ (q : j ≡ i → ⊥). rw (other_slot bars i j b q)) (same_or_not j i))
    (λ (l : length bars ≤ i). rw (set_out bars i b l)) (below_or_not i (length bars))

with_bar_same : (f : FunctionState) (i : ℕ) (b : BarState) → b.plan ≡ (bar_at f.bars i).plan → Same f (with_bar f i b)
unfolding space_of
with_bar_same f i b e = record { space = refl; power_on = refl; mask = refl; placed = refl; plans = same_slots (λ b. b.plan) f.bars i b e }

-- no write changes them
pub write_same : (f : FunctionState) (o w v : ℕ) → Same f (write_of f o w v).state
unfolding space_of
write_same f o w v =
    state_by (Same f) f o w v (same_refl f) (with_bar_same f (slot_at o) (probed (bar_at f.bars (slot_at o))) refl)
    (record { space = refl; power_on = refl; mask = refl; placed = refl; plans = λ k. refl })

by_relocation : (b : BarState) (r : Option ℕ) → (relocated b r).plan ≡ b.plan
by_relocation b (Some a) = refl
by_relocation b None = refl

-- nor does the second step of a relocation
pub relocation_same : (f : FunctionState) (s : Slot) (r : Option ℕ) → Same f (relocated_at f s r)
relocation_same f s r = with_bar_same f (index_of s) (relocated (bar_at f.bars (index_of s)) r) (by_relocation (bar_at f.bars (index_of s)) r)

-- nor a reset, which restores the live image and every BAR
reset_bar : (bars : List BarState) (i : ℕ) → bar_at (map reset_of bars) i ≡ reset_of (bar_at bars i)
reset_bar bars i = get_or-map reset_of bars i no_state

pub reset_bars : (f : FunctionState) (i : ℕ) → bar_at (reset_done f).state.bars i ≡ reset_of (bar_at f.bars i)
reset_bars f i = rw (reset_state f) (reset_bar f.bars i)

pub reset_live : (f : FunctionState) → (reset_done f).state.live ≡ f.power_on
reset_live f = rw (reset_state f)

pub reset_same : (f : FunctionState) → Same f (reset_done f).state
unfolding space_of
reset_same f = rw (reset_state f) (record { space = refl; power_on = refl; mask = refl; placed = refl; plans = λ i. rw (reset_bar f.bars i) })

-- "18, 19, and 20 on a write, change nothing"
pub refused_changes_nothing : (f : FunctionState) (o w v : ℕ) → (answer_number (write_of f o w v).answer ≡ accepted) ⊎ ((write_of f o w v).state ≡ f)
refused_changes_nothing f o w v =
    write_by_lem (λ d. (answer_number d.answer ≡ accepted) ⊎ (d.state ≡ f)) f o w v
    (record { bad_access = λ e. inr refl; probing = λ a i. inl refl; candidate = λ a i x e. inl refl; effect = λ a i hit e. inl refl; bad_effect = λ a i e. inr refl; exhausts = λ a i e. inr refl; stores = λ a i u e. inl refl })

-- of the BARs only the one written to can change
pub other_bars : (f : FunctionState) (o w v j : ℕ) → (j ≡ slot_at o → ⊥) → bar_at (write_of f o w v).state.bars j ≡ bar_at f.bars j
other_bars f o w v j h =
    state_by (λ g. bar_at g.bars j ≡ bar_at f.bars j) f o w v refl (other_slot f.bars (slot_at o) j _ h) refl

-- and it keeps its address: a write alone moves no BAR
pub write_keeps_address : (f : FunctionState) (o w v j : ℕ) → (bar_at (write_of f o w v).state.bars j).address ≡ (bar_at f.bars j).address
write_keeps_address f o w v j =
    state_by (λ g. (bar_at g.bars j).address ≡ (bar_at f.bars j).address) f o w v refl (same_slots (λ b. b.address) f.bars (slot_at o) (probed (bar_at f.bars (slot_at o))) refl j) refl

-- no byte outside the access changes
pub outside_stays : (f : FunctionState) (o w v j : ℕ) → j < length f.live → (j < o) ⊎ (o + w ≤ j) → get_or (write_of f o w v).state.live j 0 ≡ get_or f.live j 0
outside_stays f o w v j l h =
    state_by (λ g. get_or g.live j 0 ≡ get_or f.live j 0) f o w v refl refl (stored_out f.mask f.live o w v j l h)

-- and no bit whose mask bit is 0
pub unmasked_bit_stays : (f : FunctionState) (o w v j i : ℕ) → j < length f.live → get_or f.mask j 0 < 256 → i < 8 → bit (get_or f.mask j 0) i ≡ 0 → bit (get_or (write_of f o w v).state.live j 0) i ≡ bit (get_or f.live j 0) i
unmasked_bit_stays f o w v j i l m k z =
    state_by (λ g. bit (get_or g.live j 0) i ≡ bit (get_or f.live j 0) i) f o w v refl refl (stored_bit f.mask f.live o w v j i l m k z)

-- "A write that changes command bit 1, 2 or 10 adds 1", and no other does
pub write_follows : (f : FunctionState) (o w v : ℕ) → Follows f.live (write_of f o w v).state.live f.revision (write_of f o w v).state.revision
write_follows f o w v =
    let same : Follows f.live f.live f.revision f.revision = stays (record { memory = refl; master = refl; interrupt = refl }) refl in
    state_by (λ g. Follows f.live g.live f.revision g.revision) f o w v same same (revision_follows f.live (stored_in f o w v) f.revision)
