use Rattle.nt_script.proofs.OneWay as one_way
use Rattle.nt_script.proofs.laws.output_is_a_function_of_the_input.Goals as goal

pub returns : goal.returns
returns c = one_way.output_is_a_function_of_the_input c.runs_one_way.ensures
