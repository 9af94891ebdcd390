-- What is known of actions before they are done.
use Rattle.std.specs.Prelude.{◌≡◌, ◌≤◌, ℕ, Bool, true, false, IfSome}
use Rattle.glacier_http.specs.declared.reply.Reply.{Reply}
use Rattle.glacier_job.specs.Work.{HasOrderedRange}
use Rattle.glacier_replies.specs.Fields.{HasShortFields}
use Rattle.glacier_machine.specs.declared.action.Action.{Action}
use Rattle.glacier_machine.specs.declared.action.Action.TheVariants.{CreateVault, DescribeVault, DeleteVault, Upload, BeginJob, DescribeJob, JobOutput}

-- whether an action stores the bytes of its message's body
abbrev pub stores_body : Action → Bool
stores_body (Upload ask) = true
stores_body _ = false

-- an upload is one of so many bytes
abbrev pub HasSize : ℕ → Action → Type 0
HasSize n (Upload ask) = ask.size ≡ n
HasSize n _ = Unit {0}

-- a range that an action names begins where it ends or before
abbrev pub HasOrder : Action → Type 0
HasOrder (BeginJob ask) = HasOrderedRange ask.kind
HasOrder (JobOutput name job range) = IfSome range (λ r. r.0 ≤ r.1)
HasOrder _ = Unit {0}

-- whether want of memory leaves the account as it was before the action: the others give it up
abbrev pub is_undone : Action → Bool
is_undone (CreateVault name) = true
is_undone (DescribeVault name) = true
is_undone (DeleteVault name) = true
is_undone (DescribeJob name job) = true
is_undone (JobOutput name job range) = true
is_undone _ = false

-- the fields of the reply to the question for a job's output are short
abbrev pub HasShortOutput : Action → Reply → Type 0
HasShortOutput (JobOutput name job range) reply = HasShortFields reply
HasShortOutput _ reply = Unit {0}
