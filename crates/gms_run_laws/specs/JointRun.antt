-- A run that resumes where another ended: its events follow that run's events, and it uses the
-- answers after those of that run (GAMS User's Guide, "Save and Restart").
use Rattle.std.specs.Prelude.{ℕ, ◌+◌, List, ◌++◌, map}
use Rattle.gms_event.specs.Events.{Event, displays, solves, aborts, stops}
use Rattle.gms_exec.specs.Run.{Course}

-- an event of a run, as it is if the run continues another one that used `k` answers: in a solve
-- the index of the answer is greater by `k`, and any other event is unchanged
abbrev pub later_event : ℕ → Event → Event
later_event k (displays line items) = displays line items
later_event k (solves solved) = solves (record solved { answer = k + solved.answer })
later_event k (aborts line items) = aborts line items
later_event k (stops fault) = stops fault

-- the course as the continuation of one with the events `prefix` and `k` used answers: its events
-- follow those, and the index of the answer of each solve, and the number of answers that solves
-- have used, are greater by `k`
abbrev pub preceded_by : ℕ → List Event → Course → Course
preceded_by k prefix course =
    record { state = course.state; events = prefix ++ map (later_event k) course.events; left = course.left; taken = k + course.taken; halted = course.halted }

-- the course of two runs as one: `course` as the continuation of `first`
abbrev pub run_after : Course → Course → Course
run_after first course = preceded_by first.taken first.events course
