use Rattle.glacier_requests.proofs.RisingRanges.{job_range_rises, output_range_rises}
use Rattle.glacier_requests.proofs.laws.ranges_are_in_order.Goals as goal

pub returns : goal.returns
returns c = record { job = job_range_rises; output = output_range_rises }
