use Rattle.std.proofs.Common.{◌≡◌, map, take}
use Rattle.glacier_disk.proofs.mem_plan.MemPlan.with_inputs.Given as goal

abbrev pub invariant-loop-input : goal.invariant-loop-input
invariant-loop-input l = l.plan ≡ record l.initial.plan { connections = map (λ input. input.now) (take l.input-index l.inputs) }
