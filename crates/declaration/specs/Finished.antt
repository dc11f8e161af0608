-- The functions whose fields are all read, in device order.
use Rattle.std.specs.Prelude.{ℕ, ◌+◌, ◌-◌, min, cond, List, ltb, eqb, length, get_or, replicate}
use Rattle.word.specs.Table.{table}
use Rattle.word.specs.Search.{first_below}
use Rattle.address.specs.Limits.{function_room}
use Rattle.config.specs.declared.function.Function.{Function}
use Rattle.declaration.specs.Blank.{no_function}
use Rattle.declaration.specs.declared.finished.Finished.{Finished}
use Rattle.declaration.specs.declared.so_far.SoFar.{SoFar}

-- how many there are: no count reaches past its array
abbrev pub count_in : Finished → ℕ
count_in f = min f.count function_room

abbrev pub function_at : Finished → ℕ → Function
function_at f k = get_or f.functions k no_function

-- a list with x at place p, and what stood there and after it one place further
unfoldable pub opened : {A : Type 0} → A → List A → ℕ → A → List A
opened blank l p x = table (length l) (λ k. cond (ltb k p) (get_or l k blank) (cond (eqb k p) x (get_or l (k - 1) blank)))

-- where a function goes: before the first one of a higher device
abbrev pub place_in : Finished → ℕ → ℕ
place_in f device = first_below (λ k. ltb device (function_at f k).device) f.count

unfoldable pub none_finished : Finished
none_finished = record { functions = replicate function_room no_function; count = 0 }

-- one more function, where there is room
unfoldable pub finished_with : Finished → Function → Finished
finished_with f x = cond (ltb f.count function_room) (record { functions = opened no_function f.functions (place_in f x.device) x; count = f.count + 1 }) f

-- the latest function of a declaration so far, where there is one
unfoldable pub finished_so_far : Finished → SoFar → Finished
finished_so_far f s = cond (eqb s.count 0) f (finished_with f s.function)

-- after a field: where it began a function, the one before is finished
abbrev pub finished_after : SoFar → SoFar → Finished → Finished
finished_after before now f = cond (eqb now.count before.count) f (finished_so_far f before)
