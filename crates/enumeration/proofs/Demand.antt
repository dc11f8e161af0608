-- Demand 3, of every accepted file and every history, and what follows from it.
use Prim.Native.Nat.{ℕ, ◌<◌}
use mathlib.Core.List.{List, [], ◌∷◌, ◌++◌}
use mathlib.Core.Path.{◌≡◌, sym, ap, ◌∙◌}
use lib.ListN.{get_or}
use Rattle.address.specs.Layout.{bar_count}
use Rattle.address.specs.Limits.{limits}
use Rattle.bar.specs.State.{fresh}
use Rattle.bar.specs.declared.bar_state.BarState.{BarState}
use Rattle.config.specs.State.{bar_at}
use Rattle.declaration.specs.declared.answer.Declaration.{Declaration}
use Rattle.bus.specs.Bus.{function_at, key_of}
use Rattle.bus.specs.Sound.{Sound}
use Rattle.bus.specs.Start.{declared_function, plan_at, addresses_in}
use Rattle.bus.specs.declared.state.Bus.{Bus}
use Rattle.bus.proofs.LookupExact.{looked_lookup}
use Rattle.bus.proofs.Outcomes.{start_accepted}
use Rattle.bus.proofs.Powered.{start_bar, bus_function}
use Rattle.bus.proofs.RestoredBars.{reset_bar}
use Rattle.enumeration.specs.Enumerate.{enumerate_of}
use Rattle.enumeration.specs.History.{History, resets, after, ran}
use Rattle.enumeration.specs.Truth.{Accepted, declared, started, address_in, Quiet, Demand, Agreement, Absence, Restoration, Enumerations, OnlyAnswer}
use Rattle.enumeration.proofs.Follows.{equal_reports, equal_addresses}
use Rattle.enumeration.proofs.Histories.{accepted_start, history_sound, ran_last}
use Rattle.enumeration.proofs.OwnWrites.{enumeration_writes, enumeration_ran}
use Rattle.enumeration.proofs.Truths.{report_sound, truth_sound, absent_sound}

pub truth : Demand
truth file a h k l quiet = truth_sound (declared file) (ran (started file) h) (history_sound file a h) k l quiet

-- "So two functions with equal reports agree in all of these"
pub agreement : Agreement
agreement file other a c h g k j l m quiet still e =
    let s = history_sound file a h in
    let f = declared_function (declared file) k in
    let f' = declared_function (declared other) j in
    let b = ran (started file) h in
    let b' = ran (started other) g in
    equal_reports f (function_at b k) f' (function_at b' j) (sym (report_sound (declared file) b s k l quiet) ∙ e ∙ report_sound (declared other) b' (history_sound other c g) j m still) (s.good.functions.each k).capabilities.sound.few

pub absence : Absence
absence file a h device = absent_sound (declared file) (ran (started file) h) (history_sound file a h) device

-- at the start and after a reset every BAR is as placement put it
abbrev AsPlan : Declaration → Bus → ℕ → Type 0
AsPlan d b k = (i : ℕ) → i < bar_count → bar_at (function_at b k).bars i ≡ fresh (plan_at (declared_function d k) (addresses_in d) k i)

plan_quiet : (d : Declaration) (b : Bus) (k : ℕ) → AsPlan d b k → Quiet (function_at b k)
plan_quiet d b k e i l z = ap (λ (r : BarState). r.probing) (e i l)

plan_address : (d : Declaration) (b : Bus) (k : ℕ) → AsPlan d b k → (i : ℕ) → i < bar_count → address_in (function_at b k) i ≡ get_or (addresses_in d) (key_of k i) 0
plan_address d b k e i l = ap (λ (r : BarState). r.address) (e i l)

-- two such buses give one report
plan_report : (d : Declaration) (b c : Bus) → Sound d b → Sound d c → (k : ℕ) → k < d.count → AsPlan d b k → AsPlan d c k → (enumerate_of b (declared_function d k).device).report ≡ (enumerate_of c (declared_function d k).device).report
plan_report d b c s t k h p q =
    report_sound d b s k h (plan_quiet d b k p) ∙
    equal_addresses (declared_function d k) (function_at b k) (function_at c k) (λ i l. plan_address d b k p i l ∙ sym (plan_address d c k q i l)) ∙
    sym (report_sound d c t k h (plan_quiet d c k q))

start_plan : (file : List ℕ) → Accepted file → (k : ℕ) → k < (declared file).count → AsPlan (declared file) (started file) k
start_plan file a k h i l =
    let d = declared file in
    let at = (addresses_in d) in
    rw ((start_accepted limits file a.answer).bus, bus_function d (accepted_start file a).sound.good at k h) (start_bar (declared_function d k) at k i l)

reset_plan : (file : List ℕ) → Accepted file → (h : History) (k : ℕ) → k < (declared file).count → AsPlan (declared file) (ran (started file) (h ++ (resets ∷ []))) k
unfolding after
reset_plan file a h k m i l = rw (ran_last (started file) h resets) (reset_bar (declared file) (ran (started file) h) (history_sound file a h) k m i l)

pub restoration : Restoration
restoration file a h k l =
    let d = declared file in
    let b = ran (started file) (h ++ (resets ∷ [])) in
    let p = reset_plan file a h k l in
    record {
      address = plan_address d b k p;
      report = plan_report d b (started file) (history_sound file a (h ++ (resets ∷ []))) (accepted_start file a).sound k l p (start_plan file a k l);
    }

-- the writes of an enumeration are a history of its own
pub enumerations : Enumerations
enumerations b device = (enumeration_writes b device, enumeration_ran b device)

pub only_answer : OnlyAnswer
only_answer file a h = looked_lookup (declared file) (ran (started file) h) (history_sound file a h)
