use Rattle.dap_explain.proofs.Explained.{whole_explains, whole_absent, whole_refused}
use Rattle.dap_explain.proofs.walking.explain.Goals as goal

pub returns-clause-explains : goal.returns-clause-explains
returns-clause-explains c = whole_explains c.texts_are_read_in_one_way.ensures.grows c.args.bytes.now c.args.number c.args.rule c.explain_line.result c.explain_line.ensures

pub returns-clause-absent : goal.returns-clause-absent
returns-clause-absent c = whole_absent c.texts_are_read_in_one_way.ensures.grows c.args.bytes.now c.args.number c.args.rule c.explain_line.result c.explain_line.ensures

pub returns-clause-refused : goal.returns-clause-refused
returns-clause-refused c = whole_refused c.args.bytes.now c.args.number c.args.rule c.explain_line.result c.explain_line.ensures

pub returns-clause-explains_so_far : goal.returns-clause-explains_so_far
returns-clause-explains_so_far c = c.explain_line.ensures.explains

pub returns-clause-absent_so_far : goal.returns-clause-absent_so_far
returns-clause-absent_so_far c = c.explain_line.ensures.absent

pub returns-clause-refused_so_far : goal.returns-clause-refused_so_far
returns-clause-refused_so_far c = c.explain_line.ensures.refused

pub returns-clause-refuses : goal.returns-clause-refuses
returns-clause-refuses c = c.explain_line.ensures.refuses
