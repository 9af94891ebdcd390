-- How far into a message bytes were handed out.
use Rattle.std.specs.Prelude.{◌≡◌, ◌⊎◌, ℕ, ◌+◌, ◌-◌, ◌^◌, List, min, nat_le, if◌then◌else◌}
use Rattle.httparse.specs.declared.spans.HeaderSpan.{HeaderSpan}
use Rattle.glacier_http.specs.declared.head_spans.HeadStep.{HeadStep}
use Rattle.glacier_http.specs.declared.head_spans.HeadStep.TheVariants.{Need, Head, Bad}
use Rattle.glacier_http.specs.Step.{IsStep, NeedsMore}
use Rattle.glacier_host.specs.declared.course.Course.{Course}
use Rattle.glacier_host.specs.declared.course.Course.TheVariants.{Between, Inside, Rest}

-- where bytes of which nothing was handed out begin so: a message is its head and its body
abbrev pub course_of : HeadStep → Course
course_of Need = Between
course_of (Head spans) = Inside (min (spans.head_length + spans.content_length) (2 ^ 64 - 1))
course_of (Bad cause) = Rest

-- how many bytes may be handed out next into so much room: none behind the message
abbrev pub most_of : Course → ℕ → ℕ
most_of Between room = 0
most_of (Inside left) room = min left room
most_of Rest room = room

-- where they end when so many more were handed out
abbrev pub after : Course → ℕ → Course
after Between count = Between
after (Inside left) count = if nat_le left count then Between else Inside (left - count)
after Rest count = Rest

-- nothing of a message is left to be handed out
abbrev pub IsWhole : Course → Type 0
IsWhole course = after course 0 ≡ Between

-- inside a message they end so many bytes further on, and behind a whole one they may begin the next
abbrev pub GoesOn : Course → Course → ℕ → Type 0
GoesOn old new count = IsWhole old ⊎ (new ≡ after old count)

-- where the bytes that are held begin: as the reader of heads says, or with no message, where the input ends
-- before a head is whole
abbrev pub IsBegun : List ℕ → Course → Type 0
IsBegun held course =
    ((headers : List HeaderSpan) × (step : HeadStep) × IsStep held headers step × (course ≡ course_of step))
    ⊎ (NeedsMore held × (course ≡ Rest))
